pub mod Restored
pub mod Steps
pub mod Phases
pub mod Lives
pub mod Runs
pub mod Spelled
pub mod Synced
pub mod Answered
