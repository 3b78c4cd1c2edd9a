pub mod Accepted
pub mod Uses
pub mod Isolated
pub mod Sized
pub mod Plan
