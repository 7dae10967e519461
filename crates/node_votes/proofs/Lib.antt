pub mod Accepts
pub mod Due
pub mod Broken
pub mod Shown
