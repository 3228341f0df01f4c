-- What the functions of a read of one line ask of what is lent, and what they leave in it; and what such a read answers, in numbers.
pub mod Lent
pub mod Answer
