pub mod Bases
pub mod Books
pub mod Lines
pub mod Sending
