pub mod Fit
pub mod Plans
