pub mod Concluded
pub mod Ends
pub mod Gears
pub mod Lines
pub mod Parties
pub mod Statuses
