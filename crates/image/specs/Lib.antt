pub mod Image
pub mod Stores
pub mod Flush
pub mod inner
