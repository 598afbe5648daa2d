pub mod store
