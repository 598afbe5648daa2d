-- Rows of causes: that each line of one kind has its cause, in every run.
--
-- What is known of lines gives rows (`Forms`): of frames and of disks that stop (`Frames`), of plain refusals (`Refused`), of limits, by
-- the lines that events write (`Filling`, `Limit`), and of commits that are done (`Lines`, `Committed`). What is known at each moment gives
-- rows of what nodes say, where each handler says what has its cause (`Walks`, `Nodes`), event by event in whole runs (`Running`): of
-- restarts (`Up`), and, with what is known of lines, of records that they find (`Recovered`). Of quiesces, by the lines that events write:
-- what was asked is what was accepted (`Accepted`), so no action waits where every node is idle (`Waiting`, `Quiet`). Of ends that nodes
-- hear of and of aborts that are done: whoever has ended where it began is over by the journal (`Over`), and of no other action does a
-- node say so (`Tells`, `Ended`, `Aborts`); and a server or naming does where it has a lock of the action (`Rowed`, `Served`), of an
-- entry that is
-- found by its number (`Numbered`): when a node starts anew its server has none (`Anew`), and naming has those of its table (`AtNodes`,
-- `Regained`). Of locks on objects: a server grants one where the table has none against it (`Granted`), and
-- naming one on an entry (`Entries`), for what was asked (`Wanted`), and at no other message (`Others`). Of shows: they
-- say what disks hold (`Held`), which are clean before them (`Shown`), and listed stores hold the last state also while the entry is in
-- doubt (`Stored`). Of commits that are lost: the script gives up the action, whose commit is under way (`LostCommits`).
pub mod Forms
pub mod Frames
pub mod Refused
pub mod Walks
pub mod Running
pub mod Nodes
pub mod Filling
pub mod Limit
pub mod Lines
pub mod Committed
pub mod Up
pub mod Accepted
pub mod Waiting
pub mod Quiet
pub mod Recovered
pub mod Openings
pub mod Over
pub mod Tells
pub mod Ended
pub mod Aborts
pub mod Held
pub mod Stored
pub mod Shown
pub mod Anew
pub mod Numbered
pub mod AtNodes
pub mod Regained
pub mod Rowed
pub mod Served
pub mod Denied
pub mod Wanted
pub mod Others
pub mod Granted
pub mod Tops
pub mod Entered
pub mod Checks
pub mod Back
pub mod Entries
pub mod LostCommits
pub mod Late
pub mod Asking
pub mod Preparing
pub mod Committing
