pub mod Bytes
pub mod Cuts
pub mod Sessions
pub mod Stages
pub mod Statuses
pub mod Steps
pub mod Whole
