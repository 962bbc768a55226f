pub mod Sweeps
pub mod Ranges
