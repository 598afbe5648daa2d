pub mod Behind
pub mod Past
pub mod Rows
