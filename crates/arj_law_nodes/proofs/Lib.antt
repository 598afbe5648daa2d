pub mod Terms
pub mod delivery
pub mod nodes
pub mod cores
