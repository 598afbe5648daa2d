pub mod Void
pub mod Meant
