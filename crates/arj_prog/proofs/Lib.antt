pub mod Alike
pub mod Asked
pub mod LineTexts
pub mod Listings
pub mod Nests
pub mod Places
pub mod WrittenLines
