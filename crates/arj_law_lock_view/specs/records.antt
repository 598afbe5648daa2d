pub mod Tests
pub mod Claims
pub mod Coords
pub mod Runs
