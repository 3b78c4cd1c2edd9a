-- Histories: a line's tickets, versions and updates, and its pages.
-- Assumes nothing.
pub mod Updates
pub mod Stay
pub mod SoundHistory
pub mod Blob
pub mod Stamps
