pub mod Exclusion
pub mod Groups
pub mod Held
pub mod Index
pub mod Locks
pub mod Passing
pub mod Requests
