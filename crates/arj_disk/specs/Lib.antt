pub mod Armed
pub mod Counted
pub mod Disk
pub mod FileMap
pub mod Formed
pub mod Says
pub mod Slot
pub mod Stored
