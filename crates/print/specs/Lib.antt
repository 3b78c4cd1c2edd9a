pub mod Print
pub mod Examples
