pub mod Ended
pub mod Fits
pub mod Refusals
pub mod Shown
pub mod Waiting
