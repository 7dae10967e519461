pub mod Marks
pub mod Faults
pub mod Exact
pub mod Equal
pub mod Reported
