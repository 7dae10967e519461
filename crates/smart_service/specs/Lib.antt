pub mod Services
pub mod Tables
