-- Every refusal by its lowest cause, but that of a doomed action.
--
-- The causes of an event stand in rising order, and what is known of waiting, of the tree and of objects covers each number (`Causes`). Two
-- things that hold of each event of every run hold of it together (`Together`), so all of them do (`Running`).
pub mod Causes
pub mod Together
pub mod Running
