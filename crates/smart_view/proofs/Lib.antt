pub mod Sorting
pub mod Faults
pub mod Members
