pub mod Store
pub mod Size
pub mod Recent
