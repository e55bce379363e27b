-- What ties logs, data words and history together.
pub mod Ties
pub mod Laws
pub mod Logs
pub mod Start
pub mod Drain
pub mod Append
pub mod Commit
pub mod Lock
pub mod Part
pub mod Write
pub mod Order
pub mod Cut
