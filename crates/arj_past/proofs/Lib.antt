pub mod Fronts
pub mod Named
pub mod Nodes
pub mod Pasts
