-- What undoing leaves, and what a finished recovery leaves.
pub mod Data
pub mod Recovered
pub mod Restart
