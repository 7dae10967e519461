pub mod SlotBytes
pub mod Phases
pub mod Runs
pub mod Newest
pub mod Resting
pub mod Whole
pub mod Opened
pub mod Called
