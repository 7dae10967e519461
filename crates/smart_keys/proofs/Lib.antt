pub mod Begun
pub mod Blocks
pub mod Digests
pub mod Learnt
pub mod Tags
