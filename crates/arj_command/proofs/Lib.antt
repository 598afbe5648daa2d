pub mod Banks
pub mod Causes
pub mod Images
pub mod Numbers
pub mod Programs
pub mod Shows
