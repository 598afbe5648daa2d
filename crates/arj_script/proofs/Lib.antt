pub mod Cutting
pub mod Events
pub mod Feeds
pub mod Forms
pub mod Headers
pub mod Lines
pub mod Places
