pub mod Early
pub mod Tables
pub mod Says
pub mod Runs
pub mod Lines
