-- Laws of the store file's form.
pub mod Placing
pub mod Numbers
pub mod Small
pub mod Headers
pub mod Openings
pub mod MadeFile
pub mod Needed
pub mod Covering
pub mod Limit
pub mod Answers
pub mod Layouts
