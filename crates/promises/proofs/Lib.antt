-- The promises are kept, and section III-C's two claims hold.
pub mod Lines
pub mod CorrectTest
pub mod Promises
pub mod LineLayout
pub mod Claims
