pub mod Log
pub mod Jobs
pub mod Wires
pub mod Exact
pub mod LogCalls
