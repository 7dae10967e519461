pub mod Instances
pub mod Nodes
