pub mod Walks
pub mod Coming
pub mod Sweeps
pub mod Laws
pub mod Entries
pub mod Receipts
