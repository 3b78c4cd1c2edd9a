-- A folder for each idea; lower ones first.
pub mod Lists
pub mod History
pub mod Model
pub mod Calls
pub mod Line
pub mod Area
mod Example
mod Trees
mod Windows
mod Stamps
