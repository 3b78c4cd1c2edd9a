pub mod Records
pub mod Within
pub mod Counted
pub mod Newest
