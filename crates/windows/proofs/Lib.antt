pub mod Entries
pub mod Placed
pub mod Used
pub mod Lines
