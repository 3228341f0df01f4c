-- Laws of a check and the report.
pub mod Decimal
pub mod Writing
pub mod Checking
pub mod Digits
pub mod Unread
pub mod Printing
pub mod TurnedBack
