pub mod Journals
pub mod Listed
pub mod Order
pub mod Read
pub mod NodeRows
pub mod Rows
mod Gone
mod Junk
mod Wrong
