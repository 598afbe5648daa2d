pub mod Clean
pub mod Standing
pub mod States
