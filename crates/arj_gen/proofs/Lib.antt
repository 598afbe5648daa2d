pub mod Counts
pub mod Saying
pub mod Tags
