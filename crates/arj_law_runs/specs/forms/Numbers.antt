-- How far the numbers of actions rise.
use Rattle.std.specs.Prelude.{◌≤◌, Contains}
use Rattle.arj_journal.specs.declared.header.Header.{Header}
use Rattle.arj_law_runs.specs.journal.Whose.{IsOfNode}
use Rattle.arj_model.specs.Actions.{Act, acts}
use Rattle.arj_promise.specs.Runs.{Run, world_by}
use Rattle.arj_protocol.specs.World.{World}
use Rattle.arj_start.specs.Limits.{most_labels}

-- The action's node is there, its incarnation is none after the one on that node's disk, and its number is at most the count of all labels
-- that a run gives.
abbrev pub IsNumberedSo : World → Act → Type 0
IsNumberedSo w a = IsOfNode w a × ((let u = a.uid in u.num) ≤ most_labels)

-- so it is of each action that began in a run
abbrev pub RunsNumberActions : Type 0
RunsNumberActions = (hd : Header) (r : Run hd) (a : Act) → Contains (acts (let w = world_by hd r in w.lines)) a →
    IsNumberedSo (world_by hd r) a
