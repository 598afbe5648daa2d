-- Locks that are held, by the tables of a journal and at the nodes.
--
-- `tables/` has what lines do to the tables of a journal, object by object. Here the tables have the nodes' locks after each event of
-- each run (`tables_show_locks`): each handler keeps it, as long as all lines are of one event (`proofs/Keeping.antt`), by which no
-- lock is given back as those of a restart are; and what a restart gives back, the table has with each action alone
-- (`proofs/Starts.antt`). Beside both machines of an object, which are those of `joint/`, its lock machine is seen at each line in the
-- state before or behind what a node did, or behind some of the ends that came to a server (`proofs/AlongKept.antt`), and at those of a
-- restart in the state behind it (`proofs/RestartPlaces.antt`). Beside it naming is: a message changes its locks on an entry by one
-- line at most (`proofs/NamedRuns.antt`), so that at each line they are those before it or those behind (`proofs/Names.antt`). So held,
-- and entry held, are laws of the journal's tables at each line (`runs_hold_locks_at_each_line`), and of the nodes' memory at the end
-- of each event, as the tables have their locks then (`joint_runs_hold_locks`).
pub mod Sorts
pub mod Lines
pub mod Says
pub mod Keeping
pub mod Facts
pub mod Messages
pub mod Running
pub mod Writes
pub mod Telling
pub mod Starts
pub mod Restarts
pub mod Events
pub mod Machine
pub mod Prefixes
pub mod Calling
pub mod Marks
pub mod Acted
pub mod Names
pub mod NamedRuns
pub mod Places
pub mod Placing
pub mod Fronts
pub mod Traces
pub mod Points
pub mod OnLines
pub mod AlongSteps
pub mod AlongMessages
pub mod RestartPlaces
pub mod RestartNames
pub mod AlongKept
pub mod AlongEvents
pub mod AtEach
pub mod AlongMoves
pub mod Among
