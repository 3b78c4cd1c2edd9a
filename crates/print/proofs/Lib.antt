pub mod Decimal
pub mod Answering
