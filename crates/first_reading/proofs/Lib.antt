-- Laws of the first reading on lent buffers.
pub mod FirstReading
pub mod Adding
pub mod Sweeping
