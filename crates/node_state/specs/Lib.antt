pub mod Keyrings
pub mod Following
pub mod Broken
