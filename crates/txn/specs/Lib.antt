pub mod Txn
pub mod inner
