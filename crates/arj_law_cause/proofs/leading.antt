-- How many frames a settle, a quiesce and a run send in all. What messages lead to (`Loads`, `Calls`): a coordinator puts out what leads to
-- no more than it had to do still (`Kept`, `Spends`), a node no more than the message does, whatever it sends to itself (`Takes`), and no delivery
-- makes more of all there is in a world (`Worlds`), nor a settle (`Settles`). In words of the journal (`Counts`, `Waiting`) this bounds
-- a settle and a quiesce (`Bounds`); and a run, by what each event adds (`Events`, `Runs`).
pub mod Loads
pub mod Calls
pub mod Kept
pub mod Spends
pub mod Takes
pub mod Worlds
pub mod Settles
pub mod Counts
pub mod Waiting
pub mod Bounds
pub mod Events
pub mod Runs
