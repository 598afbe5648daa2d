pub mod Crashes
pub mod Commits
pub mod Pends
pub mod Holds
pub mod Behind
pub mod Told
