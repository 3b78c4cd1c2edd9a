pub mod Wanted
pub mod Steps
pub mod Examples
