-- What a visit asks of lent buffers, and what it makes of the store in them.
pub mod Lent
