pub mod Terms
pub mod machine
