pub mod Fronts
pub mod Statements
pub mod Diaries
pub mod Certificates
pub mod Law
pub mod Lists
pub mod Example
