pub mod Requests
pub mod Keeping
pub mod Parts
