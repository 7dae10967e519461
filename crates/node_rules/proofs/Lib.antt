pub mod Entries
pub mod Options
pub mod Rulewise
