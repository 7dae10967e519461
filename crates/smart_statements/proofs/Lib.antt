pub mod Batches
pub mod Branches
