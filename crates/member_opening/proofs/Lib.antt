mod Counted
mod Headed
mod Rising
pub mod Held
