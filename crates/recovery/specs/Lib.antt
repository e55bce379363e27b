pub mod Answers
pub mod Recovery
pub mod Interface
pub mod inner
