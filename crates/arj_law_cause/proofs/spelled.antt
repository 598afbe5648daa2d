-- What is sent in a run can be spelled: a node that tests each message before it hands it out finds no list that is too long, and no number
-- of an object or a node that isn't one.
--
-- Lists are short (`Lists`, `Onces`, `Plans`, `Commits`, `Tolds`, `Names` by `Entering`; votes by `Grown`, `Called` and `Votes`) and about
-- objects and nodes (`Requests`, `Replies`). Operations are in form (`Operations`), so the values of copies are (`Servers`), and states
-- restore wherever they are (`Saves`, `Saving`).
pub mod Lists
pub mod Onces
pub mod Plans
pub mod Commits
pub mod Requests
pub mod Replies
pub mod Tolds
pub mod Askers
pub mod Servers
pub mod Saves
pub mod Saving
pub mod Entering
pub mod Names
pub mod Operations
pub mod Grown
pub mod Called
pub mod Votes
pub mod Messages
