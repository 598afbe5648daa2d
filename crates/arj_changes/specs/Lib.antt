pub mod Paths
pub mod Read
pub mod Lines
pub mod Noted
pub mod Kept
pub mod Tops
pub mod Stores
pub mod Folded
