pub mod Balances
pub mod Bank
pub mod Summary
pub mod Underway
