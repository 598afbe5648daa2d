pub mod Added
pub mod Ended
pub mod Merged
pub mod Passes
pub mod Same
pub mod Undone
