pub mod Pictures
pub mod Transcripts
pub mod Plain
pub mod Runs
