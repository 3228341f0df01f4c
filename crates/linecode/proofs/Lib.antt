-- Laws of one line of 70 bytes.
pub mod Bytes
pub mod Line
pub mod IndexOf
pub mod Positions
pub mod Stores
pub mod Loading
pub mod Linear
pub mod WordBytes
pub mod Syndrome
pub mod Answers
pub mod CrcRegister
pub mod Codeword
pub mod ReadAlone
