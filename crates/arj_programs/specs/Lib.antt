pub mod Input
pub mod Keeping
pub mod Outcome
pub mod Runs
pub mod Said
pub mod Taking
pub mod Text
