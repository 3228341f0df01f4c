-- Laws of groups on lent buffers.
pub mod Walk
pub mod Numbers
pub mod Found
pub mod Counts
pub mod Passed
pub mod Held
pub mod Rooms
pub mod Added
pub mod Joined
pub mod Busy
pub mod Listing
pub mod Searching
pub mod Trials
pub mod Settled
pub mod Beside
