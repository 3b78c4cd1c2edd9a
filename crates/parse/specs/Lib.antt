pub mod Steps
pub mod Cut
pub mod Examples
