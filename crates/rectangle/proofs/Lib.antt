-- Laws of the rectangle: lines in buffers, rows and columns.
pub mod Members
pub mod Numbers
pub mod Stride
pub mod Spare
pub mod LineLayer
pub mod Buffer
pub mod Copying
pub mod Adding
pub mod Groups
pub mod Area
pub mod Alone
pub mod Tests
pub mod InTurn
pub mod Loops
-- The entry points: what is refused, and what is written.
pub mod Runs
pub mod Refusing
