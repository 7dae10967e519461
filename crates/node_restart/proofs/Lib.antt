pub mod Turns
pub mod Replays
pub mod Named
pub mod Sound
