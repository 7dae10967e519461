pub mod Stated
pub mod Shown
mod Marks
pub mod Runs
pub mod Nodes
mod Beginning
pub mod Sends
mod Witnesses
pub mod Deliveries
pub mod Group
mod Taking
mod Listing
pub mod OneList
pub mod Apps
pub mod Reading
