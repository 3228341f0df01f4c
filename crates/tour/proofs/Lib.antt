-- Laws of wear reports.
pub mod Refused
pub mod Counted
pub mod Numbers
pub mod Shares
pub mod Repaired
