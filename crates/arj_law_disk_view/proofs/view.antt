-- The protocol seen by the disk machine of one object: what each place of the machine is tied to, and what the protocol's handlers are
-- in the machine's terms.
--
-- The machine (`arj_law_disk`) has of one object what stores, naming and coordinators have of it. For each object there is a state of
-- the machine that is tied to the world place by place; a handler's effects are then effects of the machine, each allowed when it
-- comes, or nothing. `specs/Pairs.antt` ties a place to a pair of files; `specs/Stores.antt` and `specs/Entries.antt` have the stores
-- and the entry, `specs/Plans.antt`, `Asking.antt` and `Deciding.antt` the coordinators, `specs/Confirming.antt` naming at a Confirm,
-- each with what messages claim. `specs/Sees.antt` has the whole relation, `specs/Knows.antt` what it takes of the protocol alone,
-- `specs/Coordinating.antt` what each handler keeps, and `specs/Formats.antt` how it begins.
pub mod AbortWalks
pub mod AckWalks
pub mod ActionAborts
pub mod Along
pub mod Asked
pub mod AskingSteps
pub mod BeginWalks
pub mod CallWalks
pub mod CommitWalks
pub mod ConfirmKeeps
pub mod ConfirmSteps
pub mod ConfirmWalks
pub mod DecideWalks
pub mod DecidedCoord
pub mod DecidingSteps
pub mod Doings
pub mod Ended
pub mod Ending
pub mod Ends
pub mod EntrySteps
pub mod FirstSeen
pub mod Followed
pub mod Follows
pub mod Frames
pub mod FreeAsks
pub mod Halts
pub mod HeardWalks
pub mod Keys
pub mod Later
pub mod Marks
pub mod NamingTold
pub mod NewActions
pub mod Notes
pub mod OneEnd
pub mod PairSteps
pub mod Planned
pub mod QueryWalks
pub mod RestartWalks
pub mod ServedWalks
pub mod StoreSteps
pub mod StoreWalks
pub mod TellWalks
pub mod TopFrames
pub mod TickWalks
pub mod ToldWalks
pub mod UnusedWalks
pub mod WholeWalks
