pub mod Read
pub mod Range
