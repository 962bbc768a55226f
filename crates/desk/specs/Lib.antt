pub mod Desks
pub mod Entries
