pub mod Objects
pub mod Kept
pub mod Did
pub mod Parts
pub mod Asked
pub mod Ended
pub mod Held
pub mod Shown
