-- The rows of a table of samples, and what each claims.
pub mod Rows
