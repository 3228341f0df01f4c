-- One line of 70 bytes, in document 01's order: read Places, then Code, then Reading, then Entry; Before is for comparison. The promises
-- stand above, in the crate `promises`.
pub mod Places
pub mod Code
pub mod Reading
pub mod Entry
pub mod Before
