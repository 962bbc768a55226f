pub mod Means
pub mod Options
