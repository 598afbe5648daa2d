pub mod Behind
pub mod Writing
