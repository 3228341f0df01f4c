-- The SuDoku steps as document 01 makes them exact: read Layer, then Visit, Linear, Repair, Parity, Sound, Marks, Stays, Readings, OneLine,
-- Demand3, and last Forecast. Case has worked cases.
pub mod Layer
pub mod Visit
pub mod Linear
pub mod Repair
pub mod Parity
pub mod Sound
pub mod Marks
pub mod Stays
pub mod Readings
pub mod OneLine
pub mod Demand3
pub mod Forecast
pub mod Case
