-- What every journal says of why it is so.
pub mod Told
pub mod Runs
pub mod Local
