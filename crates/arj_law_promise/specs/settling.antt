pub mod Prepared
pub mod Settled
pub mod Last
pub mod Outcomes
