-- What the line code promises to the layers above, and section III-C's two claims on damaged lines.
pub mod Promises
pub mod Claims
