pub mod Slots
pub mod SlotJobs
pub mod Stores
pub mod Exact
pub mod SlotCalls
