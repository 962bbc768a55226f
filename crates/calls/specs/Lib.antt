pub mod Made
pub mod Keeping
pub mod Applied
pub mod Begins
