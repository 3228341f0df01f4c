-- What the first reading asks of lent buffers, and what it leaves in them.
pub mod Lent
