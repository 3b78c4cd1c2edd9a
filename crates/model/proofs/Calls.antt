-- Calls: what every call leaves of a model.
-- Assumes nothing.
pub mod Grows
pub mod Older
pub mod Lines
pub mod Kept
pub mod Histories
pub mod Later
pub mod Held
pub mod Reached
