pub mod Calls
pub mod Classes
pub mod Lines
pub mod Outcome
pub mod Meaning
