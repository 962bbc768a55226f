pub mod Averages
pub mod Corrections
pub mod Days
pub mod Established
pub mod Moments
pub mod Verdicts
