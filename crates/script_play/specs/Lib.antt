pub mod Apps
pub mod Readings
pub mod Statuses
pub mod Totals
