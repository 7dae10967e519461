pub mod Amounts
pub mod Ends
pub mod Lines
pub mod Loops
