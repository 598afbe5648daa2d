pub mod Findings
pub mod Stages
