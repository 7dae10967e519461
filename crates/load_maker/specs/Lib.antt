pub mod Kinds
pub mod Loads
pub mod Turns
