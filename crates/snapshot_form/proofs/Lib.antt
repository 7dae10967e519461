pub mod Executed
pub mod Joined
pub mod Lengths
pub mod Parts
pub mod Spelled
pub mod Tied
