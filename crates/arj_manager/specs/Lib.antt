pub mod Stack
pub mod Ran
pub mod Manager
pub mod Index
pub mod Views
pub mod Runs
pub mod Lists
