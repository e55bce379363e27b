pub mod Answers
pub mod Machine
pub mod Calls
pub mod Locks
pub mod Interface
pub mod inner
