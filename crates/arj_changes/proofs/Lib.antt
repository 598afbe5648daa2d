pub mod Steps
pub mod Paths
pub mod Longer
pub mod Tops
pub mod Moved
pub mod Sorted
mod Folded
