-- What rebuilding alone would save (request Q-6): read Forecast, then Samples, and last Promises. The passes themselves are the scheme's.
pub mod Forecast
pub mod Samples
pub mod Promises
