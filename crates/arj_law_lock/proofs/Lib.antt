pub mod Terms
pub mod machine
pub mod logs
