pub mod Places
pub mod Level
