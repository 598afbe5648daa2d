pub mod Kept
pub mod Maps
pub mod Merged
pub mod Noted
pub mod Placed
