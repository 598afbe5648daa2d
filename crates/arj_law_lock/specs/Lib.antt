pub mod machine
pub mod logs
