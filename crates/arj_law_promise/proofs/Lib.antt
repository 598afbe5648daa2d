pub mod Terms
pub mod waiting
pub mod settling
pub mod statement
pub mod readable
pub mod meant
pub mod rooms
