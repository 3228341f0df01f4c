-- Laws of the forecast: its answers and samples (Answers), what it gives (Gives), and what it tells of repair (Repaired).
pub mod Answers
pub mod Gives
pub mod Repaired
