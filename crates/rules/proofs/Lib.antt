pub mod Numbering
pub mod Prices
