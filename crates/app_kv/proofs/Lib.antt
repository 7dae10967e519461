pub mod Orders
pub mod Places
pub mod Spelled
pub mod Turns
