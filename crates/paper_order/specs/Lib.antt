-- The single reading in the paper's order: PaperOrder is to be read beside section III-C of document 000, Promises says what it gives.
pub mod PaperOrder
pub mod Promises
