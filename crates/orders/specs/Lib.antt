pub mod Rows
pub mod Orders
pub mod Queue
pub mod Questions
pub mod Closes
pub mod Resting
pub mod Priority
pub mod Ranks
