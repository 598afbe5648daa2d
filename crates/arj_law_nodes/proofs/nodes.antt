-- Nodes over disks that stop when they will: what they run is a run of the protocol, of which its laws hold.
--
-- The promise of the protocol speaks of moves: events with the stops that fell in them (`arj_law_parts/specs/moves/Moves.antt`). What
-- `arj_nodes` runs over real disks is such a run: of each event it is known behind it which stops its disks made. So the turns that its
-- contract tells of are moves, their header and their events are in form since they were read in the script's grammar, and the journal
-- is theirs (`specs/Turns.antt`). Laws speak of what disks say, not of files; where files are read is said in one place
-- (`specs/Readings.antt`): by the pairs of an object store, and with the records and the incarnation that every disk has. Where cores
-- say by their files, read so, what their nodes have on disk, the disks are those of the run's nodes; and cores say what their parts
-- say (`specs/Cores.antt`). So a run shows the promise (`ShowsThePromise` in `specs/Promised.antt`), whichever status it ends with, and
-- so does one of the generated bank (`specs/Banks.antt`). A line outside of events, which a run's end may put behind its journal
-- (`specs/Last.antt`), takes nothing of it. It stands on `arj_nodes`, `arj_bank`, `arj_node` and `arj_law_promise/statement`.
pub mod Banking
pub mod Ending
pub mod Reading
pub mod Turning
pub mod Standing
