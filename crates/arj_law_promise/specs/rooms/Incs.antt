-- How far incarnations rise in a run.
use Rattle.std.specs.Prelude.{◌≡◌, ◌≤◌, ◌<◌, ◌+◌, ℕ, Some, length}
use Rattle.arj_protocol.specs.Words.{Header}
use Rattle.arj_protocol.specs.Step.{Node}
use Rattle.arj_protocol.specs.Tree.{at_place}
use Rattle.arj_promise.specs.Runs.{Run, most_events, world_by}
pub use Rattle.arj_start.specs.Limits.{last_inc}

-- the incarnation of a node is at most the one with which it began, and one more for each event
abbrev pub IncsRiseByOne : Type 0
IncsRiseByOne = (hd : Header) (r : Run hd) (k : ℕ) (n : Node) → at_place k (world_by hd r).nodes ≡ Some n →
    n.disk.inc ≤ r.start.incs n.number + 1 + length r.moves

-- a node that began below the last ones has a next incarnation at every restart
abbrev pub IncsHaveNext : Type 0
IncsHaveNext = (hd : Header) (r : Run hd) (k : ℕ) (n : Node) → length r.moves ≤ most_events → r.start.incs n.number + 1 + most_events <
    last_inc →
    at_place k (world_by hd r).nodes ≡ Some n → n.disk.inc < last_inc
