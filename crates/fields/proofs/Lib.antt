pub mod Words
pub mod Fields
pub mod Numbers
pub mod Hex
