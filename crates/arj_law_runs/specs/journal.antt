pub mod Book
pub mod Idle
pub mod Knows
pub mod Laws
pub mod Right
pub mod Paths
pub mod Whose
pub mod Plans
