pub mod Format
pub mod Newest
