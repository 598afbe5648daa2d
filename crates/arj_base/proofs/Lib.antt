pub mod Packed
pub mod Paths
pub mod Uids
