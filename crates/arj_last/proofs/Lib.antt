mod Put
mod Longer
mod Tops
mod Survive
mod Sorted
pub mod Counts
pub mod Ends
mod Cuts
mod Tells
mod Lines
