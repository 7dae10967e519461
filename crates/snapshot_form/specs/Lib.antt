pub mod Replicas
pub mod Snapshots
