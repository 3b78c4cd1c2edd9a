-- Areas: the pages and nodes that a model stands for, and the trees in them.
-- Assumes nothing.
pub mod LayoutLaws
pub mod Leaves
pub mod Image
pub mod Woven
pub mod Trees
pub mod Found
pub mod Drawn
