pub mod Digits
pub mod Hex
pub mod Items
pub mod Labels
pub mod ListItems
pub mod Spaceless
pub mod Texts
pub mod Values
