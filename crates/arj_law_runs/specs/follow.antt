pub mod Frames
pub mod Refusals
pub mod Shorts
