-- Laws of the forecast on marks and counts: the pattern's lines are marked (Marking) and counted row by row (Counting), one line becomes
-- faulty or is rebuilt (Touching), a visit (Visiting), a pass (Passing), all passes (Running), and the whole forecast (Foreseeing).
pub mod Touching
pub mod Visiting
pub mod Counting
pub mod Marking
pub mod Passing
pub mod Running
pub mod Foreseeing
