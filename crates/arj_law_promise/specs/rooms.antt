pub mod Actions
pub mod Incs
pub mod Numbers
