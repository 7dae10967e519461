pub mod Changes
pub mod Faults
pub mod Outcomes
pub mod Replies
pub mod ViewLists
