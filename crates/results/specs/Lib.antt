-- What a result of repair is counted by: read Marks, then Promises.
pub mod Marks
pub mod Promises
