pub mod Follows
pub mod Marking
pub mod NodeSets
pub mod Nodes
pub mod Order
pub mod Tells
