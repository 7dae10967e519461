pub mod Following
pub mod Walks
pub mod Broken
pub mod Starts
pub mod Stopped
pub mod Newest
pub mod Summaries
