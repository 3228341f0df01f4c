-- Laws of counting marks.
pub mod Counting
pub mod Adding
pub mod Pieces
pub mod Outcomes
