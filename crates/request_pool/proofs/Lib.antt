pub mod Batches
pub mod Clients
pub mod Entries
pub mod Filters
pub mod Gathered
pub mod Sound
pub mod Subsequences
