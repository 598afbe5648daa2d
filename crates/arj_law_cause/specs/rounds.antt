pub mod Quiesces
pub mod Rounds
pub mod Settles
pub mod Known
pub mod Alone
pub mod Sends
pub mod Fits
