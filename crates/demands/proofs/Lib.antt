-- Layout: the store that a model stands for.
pub mod Image
pub mod Masks
pub mod Blocks
-- Answers: the calls' cases as numbers and values.
pub mod Readings
pub mod Faultless
pub mod Allowed
pub mod Snapshots
-- Steps: every call on the image of a model.
pub mod Records
pub mod Lines
pub mod Puts
pub mod Steps
-- Theorem: the three demands, and the isolation of lines.
pub mod Demanded
mod Example
mod LinesByCalls
