pub mod Patches
pub mod Words
