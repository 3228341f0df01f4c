-- Words of bits of any width, as document 01 speaks of them: read Word, then Polynomial, then Check, Linear, Generator, Roots, Distance.
pub mod Word
pub mod Polynomial
pub mod Check
pub mod Linear
pub mod Generator
pub mod Roots
pub mod Distance
