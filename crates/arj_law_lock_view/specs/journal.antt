pub mod Coordinators
pub mod Lines
pub mod Steps
pub mod Stops
