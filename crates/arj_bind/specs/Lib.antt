pub mod Asking
pub mod Shown
pub mod Heard
pub mod Laws
pub mod Invoking
