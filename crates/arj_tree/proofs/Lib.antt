pub mod Maps
pub mod Named
pub mod Opens
pub mod Refusals
pub mod Steps
