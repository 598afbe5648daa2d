mod Bytes
pub mod Held
mod Payloads
pub mod Taken
