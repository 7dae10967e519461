pub mod Grown
pub mod Payloads
