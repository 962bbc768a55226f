pub mod Money
pub mod Rungs
pub mod Ladders
pub mod Climbs
