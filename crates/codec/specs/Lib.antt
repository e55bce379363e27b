pub mod Fields
pub mod inner
