pub mod Lost
pub mod Ranges
pub mod Chunks
