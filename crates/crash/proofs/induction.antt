-- The calls as moves, and the theorem from an invariant by induction over the events.
pub mod Moves
pub mod Fed
pub mod Trailer
pub mod Skeleton
pub mod FromLogs
pub mod Lists
pub mod Fits
pub mod Pages
pub mod Kept
pub mod Idle
pub mod Safe
pub mod Stamps
pub mod Lag
pub mod Settled
