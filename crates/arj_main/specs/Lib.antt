pub mod Pieces
pub mod Places
pub mod Refusals
pub mod Slips
