pub mod Report
pub mod inner
