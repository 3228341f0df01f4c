-- Laws of the tables that are compiled in, of the loop over them, and of what a line's numbers tell.
pub mod Compiled
pub mod Steps
pub mod Numbers
