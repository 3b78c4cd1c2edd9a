pub mod Assign
pub mod NewUpdate
