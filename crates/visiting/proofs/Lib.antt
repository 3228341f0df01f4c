-- Laws of one visit that carries nothing.
pub mod Stores
pub mod Becoming
pub mod Counting
pub mod Summing
pub mod Trying
pub mod Cases
