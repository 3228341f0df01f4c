-- A check of a store file and the report, in document 01's order: read Report, then Check, Numbers, Program, Given, and last Promises.
pub mod Report
pub mod Check
pub mod Numbers
pub mod Program
pub mod Given
pub mod Promises
