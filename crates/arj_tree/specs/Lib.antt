pub mod Faults
pub mod Open
pub mod Stands
pub mod Tally
