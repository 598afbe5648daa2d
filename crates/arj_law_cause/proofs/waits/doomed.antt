-- Why actions are doomed.
--
-- While all frames fit, each call that waits for its operation has a frame that asks for it between two nodes: what steps send has its frame
-- (`Sending`), such calls ask as they come to that step and stay at it (`Asking`), so it is behind each step of a node (`Stepping`) and each
-- event (`Walking`); and so it is of all that actions wait for of other nodes (`Wanting`). Each request between two nodes has its line, in the
-- span of what was asked (`Spans`), one of a commit behind its call (`Behind`). So an action that a giveup dooms
-- at its coordinator (`Flags`) is doomed by the journal (`Lost`), with the lines that the giveup says (`Said`, `Standing`, `Giving`). By
-- that flag begins, calls and includes are refused, and commits aborted (`Meaning`), event by event in whole runs (`Running`).
pub mod Sending
pub mod Asking
pub mod Wanting
pub mod Stepping
pub mod Walking
pub mod Spans
pub mod Behind
pub mod Flags
pub mod Lost
pub mod Said
pub mod Standing
pub mod Giving
pub mod Meaning
pub mod Running
