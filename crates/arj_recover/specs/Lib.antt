pub mod OnDisk
pub mod Done
