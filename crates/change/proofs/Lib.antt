-- Laws of changing a line: what is refused, and what is written.
pub mod Refusing
pub mod Changing
