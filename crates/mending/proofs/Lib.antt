-- Laws of one visit on lent buffers.
pub mod Mended
pub mod Settling
pub mod Trying
pub mod Mismatching
