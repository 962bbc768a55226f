pub mod Owned
pub mod Changing
