pub mod Members
pub mod Patches
pub mod Proposals
pub mod Ranges
pub mod Signs
pub mod Spaces
pub mod Values
