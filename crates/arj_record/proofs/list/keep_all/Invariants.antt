use Rattle.std.proofs.Common.{vec_len, reverse, false}
use Rattle.arj_record.specs.Ends.{calls_from}
use Rattle.arj_record.specs.Record.{kept_by}
use Rattle.arj_record.specs.Scene.{Told}
use Rattle.arj_record.proofs.list.keep_all.Given as goal

-- what is left leads to where the whole leads
abbrev pub invariant-loop-record : goal.invariant-loop-record
invariant-loop-record g l =
    (new : g.row.S.Denot) → Told g.S.Scene.step l.scene (calls_from (kept_by l.action) l.passed (reverse l.items.items)) new →
    Told g.S.Scene.step l.fn.scene (calls_from (kept_by l.action) false l.fn.items.items) new

abbrev pub decreases-loop-record : goal.decreases-loop-record
decreases-loop-record g l = vec_len l.items
