mod Moved
pub mod Told
