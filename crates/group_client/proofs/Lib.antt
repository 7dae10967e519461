pub mod Asked
pub mod Behind
pub mod Played
pub mod Told
