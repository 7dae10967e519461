pub mod Apart
pub mod Came
pub mod Columns
pub mod Dealt
pub mod Rejoined
