pub mod Count
pub mod Mode
pub mod Order
pub mod Path
pub mod Rows
pub mod State
pub mod Uid
