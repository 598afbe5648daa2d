pub mod Asked
pub mod Writers
pub mod Waits
