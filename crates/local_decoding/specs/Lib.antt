-- One line wanted during the show (request Q-4): read Lookup, then Promises.
pub mod Lookup
pub mod Promises
