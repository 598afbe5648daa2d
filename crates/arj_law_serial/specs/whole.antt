pub mod Tops
pub mod Called
pub mod Avoids
pub mod Aborts
pub mod Acks
pub mod Whole
pub mod Rest
pub mod Runs
