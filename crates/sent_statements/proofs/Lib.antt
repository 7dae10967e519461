pub mod Makings
pub mod Lookups
