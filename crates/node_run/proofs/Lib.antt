pub mod Beginning
pub mod Causes
pub mod Closing
pub mod Living
pub mod Refused
pub mod Running
pub mod Taking
