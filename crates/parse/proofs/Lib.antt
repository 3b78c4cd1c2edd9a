pub mod Steps
pub mod Cutting
