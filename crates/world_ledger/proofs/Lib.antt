pub mod LedgerLaws
pub mod Choosing
pub mod StatedLaws
pub mod ClaimLaws
