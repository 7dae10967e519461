pub mod Lists
pub mod Deliveries
pub mod Moves
