pub mod Begun
pub mod Delivering
