-- Whole runs of the protocol, with what the lock machine of each object counts on.
--
-- It puts together, for the actions that were begun, all that `arj_law_lock_view/facts`, `arj_law_runs/calls`,
-- `arj_law_runs/addresses`, `arj_law_runs/kept` and others have of the protocol alone in every run (`specs/Whole.antt`), with what is
-- shown here: who is asked about and who has something prepared (`specs/Tops.antt`), which bindings are avoided (`specs/Avoids.antt`),
-- that no abort of a committed top is told to whom was asked for a part in it, before its root has ended (`specs/Aborts.antt`), and
-- that whoever was asked for a part in a top whose commit was recorded acknowledges that before its record goes, and is told no abort
-- of it, nor of its root, before (`specs/Acks.antt`). It gives what `arj_law_lock_view/running` counts on where something comes, but
-- for what `specs/Rest.antt` names, which `joint/` gives by the disk machine in the same run. Calls are on objects of the header
-- (`specs/Called.antt`).
pub mod Of
pub mod Names
pub mod Tops
pub mod TopWalks
pub mod Avoids
pub mod CoordCases
pub mod Aborting
pub mod AbortWalks
pub mod AbortRuns
pub mod AbortGives
pub mod AvoidWalks
pub mod Called
pub mod CalledSays
pub mod CalledWalks
pub mod AckSteps
pub mod AckTells
pub mod AckOuts
pub mod AckServes
pub mod AckRuns
pub mod AckWalks
pub mod Drained
pub mod Whole
pub mod Losing
pub mod Gives
pub mod WholeRuns
