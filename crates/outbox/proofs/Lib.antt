pub mod Leaving
pub mod Releases
