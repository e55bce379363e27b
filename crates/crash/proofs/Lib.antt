pub mod worked
pub mod recovery
pub mod induction
pub mod history
pub mod lane
pub mod ties
-- the theorem
pub mod CrashTheorem
