pub mod Filters
pub mod Needed
pub mod Rules
pub mod Changes
pub mod Arrivals
pub mod Transfers
pub mod Steps
