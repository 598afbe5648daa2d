-- What the protocol promises of every run in form, wherever disks stop in it, as one law.
--
-- A run is a list of moves, events with the stops that fall in each (`arj_law_parts/specs/moves/Moves.antt`); that of a script is one.
-- It is in form where its header and its events are, and it has at most 1,000,000 of them (`IsInForm` of `arj_law_serial/joint`). It
-- keeps the promise (`KeepsThePromise` in `specs/Promise.antt`): the journal is serial, its answered calls keep the lock book, calls
-- and entries are locked for by the journal's tables until their unit commits, disks are clean, stores are excluded in time, and each
-- top has one outcome. What was run before an event is a run in form too, so all of it holds after every event, with frames in any
-- order, again or never, all stops, crashes and restarts. A quiesce answers whoever waits but in a call that is overtaken. One that
-- begins where there is nothing to do for anybody, and the stated round, leave nothing to do; and wherever every node is idle, disks
-- hold every entry and last state with no exception (`specs/Resting.antt`).
--
-- Each clause is a law of `arj_law_serial/joint`, `arj_law_serial/holding` or `settling/`; here they stand together, of one run.
pub mod Keeping
pub mod Later
pub mod Continued
