-- Lines that answer calls and includes.
--
-- As a coordinator answers a call or an include, behind lines of what was given up, that is what waits by the journal (`Answering`). So
-- each answer in an event ends what waited (`Fitting`), whatever the node does, and event by event so it is in whole runs (`Running`).
pub mod Answering
pub mod Fitting
pub mod Running
