pub mod Certificates
pub mod Collects
