pub mod Delivered
pub mod Loops
pub mod Rounds
pub mod Settled
