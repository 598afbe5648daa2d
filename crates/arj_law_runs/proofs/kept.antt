-- What naming, servers and coordinators keep by themselves, in every run of the whole protocol.
--
-- It stands on the laws of the parts (`arj_law_parts/parts`) and on `arj_law_parts/moves`, in which what each handler keeps holds after
-- each run. `specs/Worlds.antt` says in one record what holds of all nodes, up or down, of their disks, and of every message that was
-- ever sent, with one list of the actions that were begun; the premises that a law of the parts takes as known of messages and actions
-- are shown here of each run.
pub mod Labels
pub mod Parted
pub mod Walked
pub mod Handled
pub mod Begins
pub mod Starts
pub mod AllRuns
