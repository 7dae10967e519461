pub mod Berths
pub mod Lanes
pub mod Numbers
pub mod Rooms
pub mod Runs
