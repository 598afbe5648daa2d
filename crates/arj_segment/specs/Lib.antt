pub mod Blank
pub mod Formed
pub mod Kept
pub mod Says
pub mod Stays
pub mod Store
pub mod Steps
pub mod Tables
