pub mod Waits
pub mod Rounds
pub mod Quiet
pub mod Answered
pub mod Ups
