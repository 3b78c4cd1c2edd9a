pub mod Quoted
pub mod Text
pub mod Buffer
