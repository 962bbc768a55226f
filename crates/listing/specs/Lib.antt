pub mod Ranges
pub mod Entries
pub mod Product
pub mod Listings
pub mod Questions
pub mod Changes
