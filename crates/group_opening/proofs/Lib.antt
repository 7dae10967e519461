pub mod Berthing
pub mod Lending
pub mod Opening
pub mod Ranges
pub mod Sinking
