pub mod Consumed
pub mod Telling
