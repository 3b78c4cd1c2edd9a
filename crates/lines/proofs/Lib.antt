pub mod Bits
pub mod Words
pub mod Packed
pub mod States
pub mod Numbers
pub mod Owner
