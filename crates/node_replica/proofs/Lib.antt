pub mod Begun
pub mod Delivering
pub mod Installing
pub mod Marking
