pub mod Comes
pub mod Gathered
pub mod Saved
pub mod Stops
