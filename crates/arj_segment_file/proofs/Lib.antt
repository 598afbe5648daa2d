pub mod Newest
pub mod Read
