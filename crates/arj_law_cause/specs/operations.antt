pub mod Says
pub mod Runs
