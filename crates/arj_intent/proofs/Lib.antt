pub mod Bytes
pub mod Counting
pub mod Done
pub mod Entries
pub mod Listed
pub mod Stays
