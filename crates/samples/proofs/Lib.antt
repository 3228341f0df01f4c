-- Every starred sample follows from the rules.
pub mod Samples
