pub mod Kept
pub mod Keys
pub mod Verdicts
