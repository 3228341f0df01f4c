-- Laws of one line wanted: what is refused (Refusing), what the line is by each step (Cells); and the proofs of its promises.
pub mod Refusing
pub mod Cells
pub mod Promises
