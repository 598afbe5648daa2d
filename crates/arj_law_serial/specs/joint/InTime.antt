-- Runs that exclude stores in time, by both machines of each object.
use Rattle.std.specs.Prelude.{[]}
use Rattle.arj_protocol.specs.Words.{Header}
use Rattle.arj_promise.specs.Runs.{Run, world_by}
use Rattle.arj_promise.specs.Runs.{see}
use Rattle.arj_promise.specs.Runs.{IsInForm}
use Rattle.arj_law_serial.specs.joint.Excluded.{AreExcludedInTime}

-- After each run in form, whatever stops fall, stores are excluded in time.
abbrev pub RunsExcludeInTime : Type 0
RunsExcludeInTime = (hd : Header) (r : Run hd) → IsInForm hd r → (let w = world_by hd r in AreExcludedInTime hd w.event (see [] w))
