-- Laws of the functions: what is lent (Refusing), the row's lines read (Group) and visited (Row), and what
-- the line found by each step comes to (Steps).
pub mod Refusing
pub mod Group
pub mod Row
pub mod Steps
