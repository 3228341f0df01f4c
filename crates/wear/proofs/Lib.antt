-- Laws of the functions on wear reports.
pub mod Products
pub mod OneMore
pub mod Ten
