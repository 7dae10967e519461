pub mod Lists
pub mod Marks
pub mod Plans
pub mod Certificates
pub mod Joined
pub mod Whole
