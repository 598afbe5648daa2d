pub mod Terms
pub mod view
pub mod facts
pub mod journal
pub mod running
pub mod records
pub mod moments
pub mod asking
