pub mod Windows
pub mod Walks
pub mod Stream
pub mod Heads
