pub mod Fronts
pub mod Seated
