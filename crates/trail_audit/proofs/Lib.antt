pub mod Quiets
pub mod Walks
pub mod Damages
pub mod Readings
