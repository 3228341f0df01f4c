-- Laws of repair on lent buffers.
pub mod Refusing
pub mod Groups
pub mod Counting
pub mod Passing
pub mod Running
pub mod Handing
