pub mod ReadingLaws
pub mod LongLines
pub mod ReadingCounts
pub mod Played
