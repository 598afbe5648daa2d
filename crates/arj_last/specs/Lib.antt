pub mod Groups
pub mod Kept
pub mod Survivors
pub mod State
pub mod Behind
pub mod Told
