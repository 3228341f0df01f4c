-- Laws of words of any width: exclusive or, numbers and their digits, division, check bits.
pub mod Xor
pub mod Digits
pub mod Same
pub mod Weight
pub mod Linear
pub mod Crc
pub mod Register
pub mod Hamming
pub mod Linearity
-- The generator, and the distance of its code: read Distance last.
pub mod Coefficients
pub mod Space
pub mod Iterate
pub mod Evaluation
pub mod Vandermonde
pub mod Orbit
pub mod Vector
pub mod Listing
pub mod Trail
pub mod Root
pub mod GeneratorRoots
pub mod Distance
