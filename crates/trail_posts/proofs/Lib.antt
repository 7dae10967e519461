pub mod Additions
pub mod Countings
