mod Classes
mod Voted
mod Said
mod Runs
mod Loops
mod Means
pub mod Stays
