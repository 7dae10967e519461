pub mod Changes
pub mod Broken
