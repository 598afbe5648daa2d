pub mod waiting
pub mod replies
pub mod commits
pub mod lost
pub mod objects
pub mod lowest
pub mod doomed
