pub mod Audits
pub mod Found
pub mod Parts
pub mod Taking
