pub mod Orders
pub mod Lists
pub mod Turns
pub mod Tables
pub mod Certified
