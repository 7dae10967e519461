pub mod Intakes
pub mod Outlets
