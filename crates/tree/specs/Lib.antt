pub mod Tree
pub mod Place
pub mod NodeArea
pub mod Walk
pub mod Contract
pub mod Cases
pub mod Worst
pub mod Examples
