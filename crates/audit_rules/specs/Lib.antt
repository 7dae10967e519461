pub mod Audits
pub mod Coherence
pub mod Quiets
pub mod Readings
