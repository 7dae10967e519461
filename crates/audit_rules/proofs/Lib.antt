pub mod Differences
pub mod Cores
pub mod Resting
