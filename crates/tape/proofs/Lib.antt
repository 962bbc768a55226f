pub mod Times
pub mod Memory
pub mod Calls
pub mod Back
