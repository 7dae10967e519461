pub mod Filled
pub mod Spelled
pub mod Opened
