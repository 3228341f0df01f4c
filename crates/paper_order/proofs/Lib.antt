-- The laws of the comparison and of the corrector; that the paper's order gives the reading as it stands.
pub mod Matching
pub mod InOrder
pub mod Promises
