pub mod Disks
pub mod Stores
pub mod Runs
pub mod Opens
pub mod BookRuns
pub mod Streams
pub mod Calls
