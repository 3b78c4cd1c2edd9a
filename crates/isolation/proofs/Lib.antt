-- Lists, and what the calls keep of the model.
pub mod Lists
pub mod Kept
-- Two runs: tickets that mean the same, matched states, what other lines leave as it is, one call in two matched states, and lines that begin.
pub mod Tickets
pub mod Match
pub mod Frame
pub mod Alike
pub mod Refusals
pub mod Calls
pub mod Queries
pub mod Acts
pub mod Begins
pub mod Isolation
mod Example
