pub mod Windows
pub mod Listed
pub mod Examples
