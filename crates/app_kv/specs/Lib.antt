pub mod Entries
pub mod Operations
pub mod Replies
pub mod Restored
pub mod Snapshots
pub mod States
pub mod Stores
