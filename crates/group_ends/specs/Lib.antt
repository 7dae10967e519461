pub mod Carried
pub mod Facts
pub mod Journals
pub mod Ports
