pub mod Keeping
pub mod Payloads
pub mod Places
