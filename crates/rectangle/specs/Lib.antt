-- The rectangle, in document 01's order: read Store, then Answers, Refusals, Tables, Change, Repair; Before is for comparison. The demands stand
-- above, in the crate `demands`.
pub mod Store
pub mod Answers
pub mod Refusals
pub mod Tables
pub mod Change
pub mod Repair
pub mod Before
