-- What the customer demands, each sentence above its statement; then what request Q-1 says of the marks, request Q-2 of the tables that
-- a change tests, and request Q-3 of those that repair writes.
pub mod Demands
pub mod Marks
pub mod Reload
pub mod Cells
