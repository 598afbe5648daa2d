pub mod Grammar
pub mod Known
pub mod Texts
pub mod Written
