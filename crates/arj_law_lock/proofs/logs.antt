-- What a copy's log has of a top at its commit, by the lock machine.
--
-- `machine/` has that a vote gives the right value while naming is of the binding's incarnation. Here the log of the copy is kept
-- against the top's own calls from then on, also where naming has forgotten the top since; and what lies under its writes there stays
-- what it was at the vote.
pub mod Bases
pub mod Homes
pub mod LoggedSteps
pub mod Overs
pub mod OwnLogs
pub mod Takes
