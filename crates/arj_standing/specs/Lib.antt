pub mod Begun
pub mod Doubts
pub mod Held
pub mod Node
