pub mod Terms
pub mod store
