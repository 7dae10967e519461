pub mod Accepting
pub mod Firsts
pub mod Counted
