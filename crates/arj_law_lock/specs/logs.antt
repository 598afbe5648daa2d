pub mod Given
pub mod Under
