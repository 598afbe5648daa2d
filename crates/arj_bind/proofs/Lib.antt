pub mod OtherReplies
pub mod Taking
pub mod InOrder
pub mod KeepingOn
pub mod Hearing
pub mod Invoking
