pub mod Terms
pub mod Words
pub mod coordinator
pub mod parts
pub mod told
pub mod moves
pub mod steps
