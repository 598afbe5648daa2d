pub mod AllNodes
pub mod AsMachine
pub mod Told
