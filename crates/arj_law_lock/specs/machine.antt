pub mod Actions
pub mod Rows
pub mod State
pub mod Steps
pub mod Machine
pub mod Laws
pub mod Loads
pub mod Runs
