-- How the code goes and why it is right: need not be believed.
pub mod KeepsLaws
pub mod ResultLaws
pub mod SaidLaws
pub mod Checked
pub mod StoreLaws
pub mod CachedWritesLaws
pub mod FormatLaws
