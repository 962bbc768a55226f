pub mod Fronts
pub mod Arrived
pub mod Steps
