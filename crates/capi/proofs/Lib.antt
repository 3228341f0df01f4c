-- Laws of one line at the C interface: what the proofs share, and the answers.
pub mod Single
pub mod Answers
pub mod Files
