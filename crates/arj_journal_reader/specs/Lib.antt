pub mod Form
pub mod LineKinds
pub mod Reading
pub mod Spellings
