pub mod Events
pub mod History
pub mod Theorem
pub mod Corollaries
pub mod BenchSheet
