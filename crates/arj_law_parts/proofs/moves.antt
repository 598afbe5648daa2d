-- The protocol seen through relations: what each handler keeps, at each of its effects and wherever a stop falls, holds in every run.
--
-- A view of the protocol, as the machine of one object that the law crates of disks and locks speak of, is a relation on what is seen
-- of a world: each node's disk and memory, the journal, and every message that was ever sent. `specs/moves/Seen.antt` says what is seen,
-- `specs/moves/Walks.antt` what it is that a handler's effects are walked through, with a stop at each work of the disk, and
-- `specs/moves/Keeps.antt` what has to be shown of a relation, handler by handler. A relation may also look at the history: the run
-- before the event under way, that event, what was asked of actions, and how many frames were sent (`specs/moves/Moments.antt`); a message
-- to another node has the exact line of its frame then (`specs/moves/With.antt`). Whole steps with a node's messages to itself, frames,
-- events and runs, in which disks stop of their own, are shown here once for all relations with a history (`Worlds`, `Events`); those that
-- look at none are some of them (`Happens`, `Moving`).
pub mod EachNode
pub mod Cuts
pub mod Flat
pub mod Others
pub mod Reasons
pub mod Happens
pub mod Inputs
pub mod Places
pub mod Rounds
pub mod Together
pub mod Worlds
pub mod Firsts
pub mod Events
pub mod Framing
pub mod Moving
