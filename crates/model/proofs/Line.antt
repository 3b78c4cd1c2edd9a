-- Lines: one line as another shows it, and what a line answers.
-- Assumes nothing.
pub mod Shared
pub mod Owner
pub mod Owned
pub mod Numbers
pub mod Asked
pub mod Since
