pub mod FromRoot
pub mod Ends
