pub mod Ends
pub mod Record
pub mod Records
pub mod Scene
