pub mod HigherLaws
pub mod Ranges
pub mod SearchLaws
