pub mod Growth
pub mod Joined
pub mod JoinedSamples
