pub mod Comings
pub mod Wires
