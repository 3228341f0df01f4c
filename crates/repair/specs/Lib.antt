-- What the functions of repair ask of lent buffers, and what they leave in them; and what repair answers, in numbers.
pub mod Lent
pub mod Answer
