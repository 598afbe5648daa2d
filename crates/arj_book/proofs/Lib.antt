pub mod Answered
pub mod Freed
pub mod Keys
pub mod Orders
pub mod Places
pub mod Steps
