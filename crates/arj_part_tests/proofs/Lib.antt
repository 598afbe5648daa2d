pub mod Knowing
pub mod States
