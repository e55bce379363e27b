-- How the code goes and why it is right: need not be believed.
pub mod Tests
pub mod Lists
pub mod Members
