pub mod Buffer
pub mod Same
