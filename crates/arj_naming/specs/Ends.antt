-- What naming does at the end of an action, part by part.
use Rattle.std.specs.Prelude.{if◌then◌else◌, List, [], Option, Some, None}
use Rattle.std.specs.List.{flat_map}
use Rattle.arj_protocol.specs.Effect.{Effect, Pair, Did, did_nothing}
use Rattle.arj_protocol.specs.Naming.{Naming, taken_end, orphans, end_entries, end_lines, end_locks}
use Rattle.arj_protocol.specs.Words.{Uid, End, is_on}
use Rattle.arj_protocol.specs.Words.ending

-- what the end is taken for, if it wasn't told before
abbrev pub taken_by : Uid → End → Naming → Option End
taken_by u e n = if is_on n.told u then None else Some (taken_end u e n)

-- the others whose entries are aborted, since an abort drops their locks
abbrev pub orphans_by : Uid → Option End → Pair → Naming → List Uid
orphans_by u None d n = []
orphans_by u (Some ending.Commit) d n = []
orphans_by u (Some ending.Abort) d n = orphans u d n

-- so of all these actions
abbrev pub abort_all : List Uid → List Effect
abort_all us = flat_map (λ act. end_entries act ending.Abort) us

-- the lines, and the locks
abbrev pub finished : Uid → Option End → Naming → Did Naming
finished u None n = did_nothing n
finished u (Some e) n = record { part = end_locks u e n; outs = end_lines u e n }
