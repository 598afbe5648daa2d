-- Runs whose disks are clean, by both machines of each object.
use Rattle.std.specs.Prelude.{[]}
use Rattle.arj_model.specs.Clean.{CleanFrom}
use Rattle.arj_model.specs.Disks.{Disks}
use Rattle.arj_protocol.specs.Words.{Header}
use Rattle.arj_promise.specs.Runs.{Run, journal_by, world_by}
use Rattle.arj_promise.specs.Runs.{see}
use Rattle.arj_promise.specs.Runs.{IsInForm}
use Rattle.arj_promise.specs.Disks.{DisksAre}

-- After each run in form, whatever stops fall, its nodes' disks are clean, however they are read.
abbrev pub RunsAreClean : Type 0
RunsAreClean = (hd : Header) (r : Run hd) (disks : Disks) → IsInForm hd r → DisksAre (see [] (world_by hd r)) disks →
    CleanFrom hd r.start.marks (journal_by hd r) disks
