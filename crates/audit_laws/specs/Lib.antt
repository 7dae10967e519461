pub mod Completeness
pub mod Written
pub mod Heads
