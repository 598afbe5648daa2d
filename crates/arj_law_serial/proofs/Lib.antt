pub mod Terms
pub mod whole
pub mod past
pub mod order
pub mod joint
pub mod tables
pub mod holding
