pub mod Admission
pub mod BookIndex
pub mod BookReports
pub mod Books
pub mod Entries
pub mod Standing
pub mod Tidy
