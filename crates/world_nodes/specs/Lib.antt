pub mod Acting
pub mod Idling
pub mod Calling
pub mod Crashes
