pub mod Sends
pub mod Marks
