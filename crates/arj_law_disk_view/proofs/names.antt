-- Naming's memory of one object, seen by the disk machine with its naming half.
--
-- The machine (`arj_law_disk`, `specs/Names.antt`) has of naming's memory its incarnation, the locks on one entry, whom it was told of
-- and whom it confirmed. `specs/Memory.antt` ties that to what the protocol's naming has. Each call of naming is then a list of the
-- machine's acts, each of which may be done when it comes (`specs/Calls.antt`, `specs/Restarts.antt`); and what a Confirm counts on of
-- the locks, which the disk half takes as known, follows (`specs/Booked.antt`). Beside the disk half, of one state of the machine,
-- naming's half is walked in `specs/Both.antt`, and by whole handlers in `specs/Handlers.antt`.
pub mod BareEnds
pub mod Binding
pub mod CommitBoth
pub mod ConfirmBoth
pub mod CoordBoth
pub mod DecidedRoots
pub mod DecidedTrees
pub mod EndActs
pub mod EntriesLeft
pub mod GrantClaims
pub mod GrantSteps
pub mod Heard
pub mod InputBoth
pub mod ListEnds
pub mod ListSteps
pub mod LoadSteps
pub mod Locks
pub mod MessageBoth
pub mod NamingWalks
pub mod NewConfirms
pub mod Noting
pub mod Onward
pub mod Openings
pub mod Orphans
pub mod Pairing
pub mod RestartActs
pub mod RestartBoth
pub mod RootsBoth
pub mod StepsBoth
pub mod StepsFollowed
pub mod StepsKept
pub mod ToldBoth
pub mod ToldOnes
