pub mod Files
pub mod Found
pub mod Prep
pub mod Reads
pub mod Laws
