pub mod Proposals
pub mod Named
pub mod Sizes
