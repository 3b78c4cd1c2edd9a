pub mod Bits
pub mod Ticket
pub mod Rows
pub mod Own
