-- Lines that end commits.
--
-- A node says beside its coordinator lines of its parts alone (`Serving`). Its coordinator ends a commit by one line, behind lines of
-- what that excludes or gives up (`Turning`). The commit is under way by the journal there (`Under`), so each such line in an event fits
-- (`Fitting`), whatever the node does, and event by event so it is in whole runs (`Running`).
pub mod Serving
pub mod Turning
pub mod Under
pub mod Fitting
pub mod Running
