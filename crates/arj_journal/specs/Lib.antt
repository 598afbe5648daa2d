pub mod LineForm
pub mod LineText
pub mod LineWords
pub mod ScriptForm
pub mod ScriptText
pub mod Stepping
