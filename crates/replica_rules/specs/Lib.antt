pub mod Replicas
pub mod Seals
pub mod Pools
