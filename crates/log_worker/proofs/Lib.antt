pub mod Booked
pub mod Chains
pub mod Fails
pub mod Grouped
pub mod Stored
