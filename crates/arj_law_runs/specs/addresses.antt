pub mod Binds
pub mod Addresses
