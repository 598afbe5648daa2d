-- That runs begin with more than formats.
pub mod Samples
pub mod Continued
