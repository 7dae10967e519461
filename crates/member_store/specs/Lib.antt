pub mod Members
pub mod Left
pub mod Devices
pub mod Cuts
