pub mod Rooms
pub mod Uses
