-- Every case follows from the rules, and so does the report.
pub mod Cases
pub mod Report
pub mod Forecast
