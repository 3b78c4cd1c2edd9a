pub mod Weave
pub mod Next
