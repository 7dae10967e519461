pub mod Feeds
pub mod Runs
pub mod Loads
pub mod Nodes
pub mod Audits
pub mod Groups
