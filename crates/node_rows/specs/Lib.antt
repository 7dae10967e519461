pub mod Cells
pub mod Here
