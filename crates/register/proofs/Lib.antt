pub mod Bytes
pub mod Slicing
pub mod TableRule
pub mod Additive
