pub mod Complete
pub mod Exclusive
pub mod Fronts
pub mod Rereading
pub mod Headed
