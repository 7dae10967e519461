pub mod Lives
pub mod Members
pub mod Rounds
pub mod Statuses
pub mod Wires
