pub mod Plans
pub mod Fetches
pub mod Seeds
