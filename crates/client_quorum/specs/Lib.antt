pub mod Clients
pub mod Quorums
pub mod Readings
pub mod ViewWords
