-- What reading and handing over the parity lines ask of lent buffers, and what they make of the tables in them.
pub mod Lent
