-- How the code goes and why it is right: need not be believed.
pub mod CheckLaws
pub mod TxnLaws
pub mod Writes
pub mod WritesLaws
pub mod Chunks
pub mod Operations
pub mod Lookup
pub mod LookupLaws
pub mod Progress
pub mod ProgressLaws
