pub mod Log
pub mod Append
pub mod inner
