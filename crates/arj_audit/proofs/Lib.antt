pub mod Calms
pub mod Wrongs
