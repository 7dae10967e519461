pub mod Places
pub mod Coming
pub mod Executed
pub mod Managed
