-- What the functions of one visit ask of lent buffers, and what they leave in them.
pub mod Lent
