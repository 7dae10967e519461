pub mod Choices
pub mod Synchronizers
