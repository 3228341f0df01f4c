pub mod Columns
pub mod Entries
pub mod Fields
pub mod Summing
pub mod BothSums
