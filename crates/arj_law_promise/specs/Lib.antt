pub mod waiting
pub mod settling
pub mod starts
pub mod readable
pub mod meant
pub mod rooms
