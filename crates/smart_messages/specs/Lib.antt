pub mod Messages
pub mod Regencies
