pub mod Puts
pub mod Images
pub mod Undone
pub mod Sound
pub mod Kept
pub mod Moments
pub mod Shelves
