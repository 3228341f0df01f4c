-- The wear report of a tour (request Q-5): read Wear, then Adding, Share, Numbers and Given, and last Promises.
pub mod Wear
pub mod Adding
pub mod Share
pub mod Numbers
pub mod Given
pub mod Promises
