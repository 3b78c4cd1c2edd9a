pub mod Bits
pub mod Passed
