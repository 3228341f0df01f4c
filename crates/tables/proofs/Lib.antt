-- Laws of making tables: what is refused, and the sweep over the lines.
pub mod Refusing
pub mod Summing
pub mod Pieces
pub mod SweepingRow
pub mod Sweeping
