pub mod Keys
pub mod Runs
pub mod Sorts
pub mod Right
