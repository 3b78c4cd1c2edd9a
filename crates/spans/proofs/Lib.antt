pub mod Order
pub mod Smallest
pub mod Table
pub mod Rule
