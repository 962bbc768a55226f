pub mod Markets
pub mod Makes
pub mod Questions
