pub mod Table
pub mod Refused
