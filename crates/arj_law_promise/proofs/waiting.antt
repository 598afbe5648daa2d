-- Requests for which somebody waits, in every run: that nodes answer them.
--
-- `arj_law_runs/resting` has that a quiesce answers whoever waits, with a premise: that no request for which somebody waits is void,
-- unless its call is overtaken. Here most of it is given in every run. Whoever was told to have ended has ended at its coordinator
-- (`arj_law_serial/past`), so nobody above one who waits was told; with what requests are of (`arj_law_lock_view/facts`) and where
-- messages go (`arj_law_runs/addresses`) a request is void only as `specs/Waits.antt` names.
pub mod Untold
pub mod Replies
pub mod Serving
pub mod Since
pub mod AskedServers
pub mod Made
pub mod Standing
pub mod Stepping
pub mod Named
pub mod Known
pub mod WriterCoords
pub mod WriterCommits
pub mod WriterNodes
pub mod WriterHandled
pub mod WriterRuns
pub mod Uncommitted
pub mod AskedEffects
pub mod AskedRuns
pub mod Gives
pub mod Keeping
