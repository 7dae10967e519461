pub mod Deliveries
pub mod Excuses
