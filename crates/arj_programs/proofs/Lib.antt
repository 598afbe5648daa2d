pub mod Fits
pub mod Readings
pub mod Runnings
pub mod Sayings
pub mod Stages
