-- What is refused, and what is handed over.
pub mod Refused
pub mod Left
pub mod TableLines
pub mod Handed
pub mod Marks
pub mod Reload
pub mod Cells
-- The demands: read Kept last.
pub mod Parity
pub mod ParityLines
pub mod Sound
pub mod Written
pub mod Damaged
pub mod Order
pub mod Demand3
pub mod Before
pub mod NoneWrong
pub mod FourLines
pub mod Agreement
pub mod Anew
pub mod Kept
pub mod Example
