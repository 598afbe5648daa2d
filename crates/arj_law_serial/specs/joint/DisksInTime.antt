-- Excluded in time, by a journal and what nodes' disks say: what they hold, and what is prepared there.
use Rattle.std.specs.Prelude.{[]}
use Rattle.arj_journal.specs.declared.header.Header.{Header}
use Rattle.arj_model.specs.Disks.{Disks}
use Rattle.arj_promise.specs.Runs.{Run, world_by}
use Rattle.arj_promise.specs.Runs.{see}
use Rattle.arj_promise.specs.Runs.{IsInForm}
use Rattle.arj_promise.specs.Disks.{DisksAre}
use Rattle.arj_promise.specs.Excluded.{DisksAreInTimeFrom}

-- After each run in form, whatever stops fall, its nodes' disks are in time, however they are read.
abbrev pub RunsExcludeInTimeOnDisks : Type 0
RunsExcludeInTimeOnDisks = (hd : Header) (r : Run hd) (disks : Disks) → IsInForm hd r →
    (let w = world_by hd r in DisksAre (see [] w) disks → DisksAreInTimeFrom hd r.start.marks w.event w.lines disks)
