pub mod Restored
pub mod Restoring
pub mod Sound
