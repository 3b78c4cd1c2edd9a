-- Model: what is true of it, and what the rows of a call say of it.
-- Assumes nothing.
pub mod Sound
pub mod Updated
pub mod Shown
pub mod Facts
pub mod Passed
