-- A law of tables of samples.
pub mod Parts
