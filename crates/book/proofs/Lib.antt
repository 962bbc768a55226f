pub mod Walking
pub mod Conserved
pub mod Kept
pub mod Behind
pub mod Numbered
pub mod Entered
