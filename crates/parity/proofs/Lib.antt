-- Laws of tables that are filled line by line.
pub mod Tables
