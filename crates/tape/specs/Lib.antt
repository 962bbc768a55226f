pub mod Ranges
pub mod Rows
pub mod Trades
pub mod Tapes
pub mod Placed
pub mod Windows
pub mod Days
