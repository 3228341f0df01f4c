-- The form of a store file, in document 01's order: read Bytes, then Header, Opening, Layout, Given, and last Promises.
pub mod Bytes
pub mod Header
pub mod Opening
pub mod Layout
pub mod Given
pub mod Promises
