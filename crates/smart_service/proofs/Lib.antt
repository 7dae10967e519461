pub mod Coming
pub mod TableLines
