mod Disks
mod Raised
mod Firsts
pub mod FirstPair
