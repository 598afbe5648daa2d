pub mod Forms
pub mod Input
pub mod Limits
pub mod Replayed
pub mod Running
pub mod Written
