pub mod Ledgers
pub mod Choices
pub mod Statements
pub mod Claims
