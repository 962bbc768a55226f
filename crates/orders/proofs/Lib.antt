pub mod Heads
pub mod Gone
pub mod Cursor
pub mod Leaving
pub mod Ordered
pub mod Onward
