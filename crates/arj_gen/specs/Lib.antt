pub mod Bank
pub mod Grows
