-- Lists: by number, by a rule, by cells, by pairs, by different numbers, by blocks, by runs of calls.
-- Assumes nothing.
pub mod Laid
pub mod Nth
pub mod Tab
pub mod Cells
pub mod Pairs
pub mod Pigeons
pub mod Slots
pub mod Blocks
pub mod Bytes
pub mod Runs
