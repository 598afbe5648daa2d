pub mod Settles
pub mod Halts
pub mod Spoken
pub mod Writes
pub mod Named
