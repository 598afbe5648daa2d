pub mod Cutting
pub mod Events
pub mod Grammar
pub mod Input
pub mod Stage
