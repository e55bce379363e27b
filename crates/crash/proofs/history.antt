-- What record, cached words and history have in common.
pub mod Lanes
pub mod Refusals
pub mod Agree
pub mod Answers
pub mod Words
pub mod Ranges
pub mod Parts
pub mod Onward
pub mod Books
pub mod BooksLock
pub mod Start
