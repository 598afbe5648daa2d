pub mod Terms
pub mod view
pub mod names
pub mod running
pub mod deciding_lines
