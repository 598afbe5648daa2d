pub mod Checks
pub mod Found
pub mod Parts
pub mod Taking
