pub mod Framed
pub mod Keeps
pub mod Moments
pub mod Seen
pub mod Walks
pub mod With
