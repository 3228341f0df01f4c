-- What the contracts of the program's reading cite.
pub mod Counts
