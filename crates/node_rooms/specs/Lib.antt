pub mod Shelves
pub mod Texts
