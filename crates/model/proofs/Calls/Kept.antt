-- Every call keeps the model sound, a file for each call.
-- Assumes nothing.
pub mod Same
pub mod Begin
pub mod Change
pub mod Put
pub mod Weave
pub mod SetWindows
pub mod Publish
pub mod Branch
pub mod Assign
pub mod Every
