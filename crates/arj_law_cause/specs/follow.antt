pub mod causes
pub mod lines
