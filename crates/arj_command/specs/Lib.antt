pub mod Below
pub mod Command
pub mod Facts
pub mod Images
pub mod Outcome
pub mod Programs
