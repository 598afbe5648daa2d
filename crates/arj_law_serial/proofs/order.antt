-- The journal's side of the lock machine: what its laws say of a journal's calls, in the words of `arj_model`.
--
-- `specs/Tied.antt` says what ties a state of an object's machine to a journal: its actions stand where the journal's paths say, are
-- committed as its lines say, and its calls are exactly the answered ones on the object. It stands on the laws of the machine
-- (`arj_law_lock/machine`), on what ties it to lines (`arj_law_lock_view/journal`), on the laws of journals whose lines are right
-- (`arj_law_runs/journal`), and on the lock book (`arj_law`).
pub mod Ties
pub mod Timely
pub mod Paths
pub mod Items
pub mod Tying
pub mod Values
pub mod Order
pub mod Begun
pub mod Codes
pub mod Locks
pub mod States
pub mod Entries
pub mod Contents
pub mod Cleaning
pub mod Votes
pub mod Shown
pub mod Taking
pub mod Turning
pub mod Includes
pub mod Including
pub mod Seeing
pub mod Joins
