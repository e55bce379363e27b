pub mod Inspection
pub mod inner
