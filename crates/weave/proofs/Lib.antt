pub mod Room
pub mod Older
