-- All that laws show of why a journal is so, put together.
pub mod Assembled
pub mod Joined
pub mod Telling
pub mod Together
pub mod Locks
pub mod Every
