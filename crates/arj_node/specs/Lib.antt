pub mod Ran
pub mod Outgoing
pub mod Handing
pub mod Goes
pub mod Stepped
pub mod Acting
pub mod Roster
pub mod Lives
