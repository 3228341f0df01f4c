-- Document 01, "Sample damage": those with a star, in one table.
pub mod Samples
