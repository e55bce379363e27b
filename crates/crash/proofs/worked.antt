-- Values worked out by hand and computed by the checker: lists of events, wrong stores, the bench sheet.
pub mod Everything
pub mod Worked
pub mod Refute
pub mod WrongStores
pub mod Examples
pub mod BenchSheet
