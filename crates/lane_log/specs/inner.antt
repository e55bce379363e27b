-- How the code goes and why it is right: need not be believed.
pub mod LogLaws
pub mod OrderLaws
pub mod Search
pub mod LatestLaws
pub mod AppendEntries
pub mod AppendLaws
