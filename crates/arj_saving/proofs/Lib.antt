pub mod Behind
pub mod Crashing
pub mod Ends
pub mod Gathers
pub mod Lengths
pub mod Racks
pub mod Saids
pub mod Scripts
