pub mod Hearing
pub mod Asking
