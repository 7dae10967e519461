pub mod Fronts
pub mod Views
pub mod Moves
