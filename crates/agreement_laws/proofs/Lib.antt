pub mod Lists
mod Shared
pub mod Groups
mod Diaries
mod Choices
pub mod Regencies
pub mod OneList
pub mod Closed
mod Collects
mod ExampleBooks
mod Example
pub mod Growing
