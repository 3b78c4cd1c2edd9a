pub mod Isolation
pub mod Example
