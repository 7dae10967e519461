pub mod Devices
pub mod Headings
pub mod Opened
pub mod Restorings
pub mod Rooms
