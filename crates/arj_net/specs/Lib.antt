pub mod Net
pub mod Front
