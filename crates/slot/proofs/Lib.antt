pub mod SlotBits
pub mod SlotLaws
pub mod SlotReads
