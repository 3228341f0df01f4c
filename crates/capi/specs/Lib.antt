-- The C interface. Tables, change and repair cite the rectangle's own definitions, a read of one line those of `local_decoding`, the forecast
-- those of `forecast`, wear reports those of `tour`; here stand those of a single line, and what is promised of them.
pub mod Single
pub mod Promises
