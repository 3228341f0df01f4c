-- What the functions of the forecast ask of marks and counts, and what they make of them.
pub mod Lent
