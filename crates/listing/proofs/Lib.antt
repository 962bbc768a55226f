pub mod Faults
pub mod Found
pub mod Written
pub mod All
pub mod Same
