pub mod Filters
pub mod Paths
pub mod Tables
