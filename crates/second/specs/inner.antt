-- How the code goes and why it is right: need not be believed.
pub mod Records
pub mod Refusals
pub mod Words
