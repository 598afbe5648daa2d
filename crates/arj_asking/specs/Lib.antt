pub mod Again
pub mod Begun
pub mod Calls
pub mod Hearing
pub mod Rooms
pub mod Sent
