pub mod Applied
pub mod Changes
pub mod Outcomes
