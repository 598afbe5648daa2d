-- What answers say of the journal's tables, and that it is so; and that the lines of answers have their causes.
--
-- A conflict is with the first row that stands against what was asked, and an operation is run in its lock (`Meeting`). Inside of an event
-- all lines are of it (`Inside`), so tables show locks there, of actions that began (`Holders`), and what a store has in doubt is pending
-- there: its work comes with its line (`Pends`, `Fair`), so that is so where more is known of whoever is asked (`Watching`, `Watches`): a
-- node that stops before the line takes a Prepare then, by the lines of its step (`Stops`), in each step of a node (`Stepped`) and each
-- event (`Worlds`). It is at one that may be a store of it, as whoever loads asks (`Stores`, and of what roots keep and plans have
-- `Lists`), and of an action that has changed it (`Changing`), and whoever answers says what the table has (`Telling`). Event by event so
-- it is in whole runs (`Running`), and the first conflicts of tables and of nodes are the same at each moment (`Agreeing`).
--
-- A call ends at its coordinator by the answer that it takes, or given up (`Ending`). There the action waits for what was asked
-- last, and the answer was made in its span (`Taking`), under its path (`Paths`), where the journal's row finds it (`Spans`, `Rows`); what
-- is given up says so before (`Giving`). An answer that finds something changed was made where that shows (`Differing`, `Starting`,
-- `Differences`), and no two incarnations of a server are named (`Machines`). An include that loads was let go on by naming in its top's
-- lock, and a call until it comes to its server, whatever a coordinator does (`Loading`), and each node (`Locked`); so its root has
-- entered (`Entered`), where whoever was granted a lock on an entry had begun (`Settled`). What a root keeps of an object it has from a
-- call that was asked before (`Keepers`), in another event than one that finds it different (`Calls`). So each line of an event fits
-- (`Lined`, `Asks`); and as what is accepted is what coordinators were asked (`Accepting`), each line of a run (`Whole`).
pub mod Meeting
pub mod Inside
pub mod Holders
pub mod Telling
pub mod Differing
pub mod Pends
pub mod Fair
pub mod Stops
pub mod Watching
pub mod Watches
pub mod Stepped
pub mod Worlds
pub mod Lists
pub mod Stores
pub mod Changing
pub mod Running
pub mod Starting
pub mod Agreeing
pub mod Ending
pub mod Machines
pub mod Taking
pub mod Paths
pub mod Spans
pub mod Loading
pub mod Keepers
pub mod Differences
pub mod Entered
pub mod Rows
pub mod Giving
pub mod Asks
pub mod Locked
pub mod Calls
pub mod Lined
pub mod Accepting
pub mod Settled
pub mod Whole
