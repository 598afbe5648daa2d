-- The entry after the tops so far.
use Rattle.std.proofs.Common.{List, take}
use Rattle.arj_journal.specs.declared.body.Line.{Line}
use Rattle.arj_model.specs.Actions.{acts}
use Rattle.arj_standing.specs.Begun.{AreBegun}
use Rattle.arj_changes.specs.Folded.{IsFolded, tops_ranked}
use Rattle.arj_changes.specs.Kept.{AreKept}
use Rattle.arj_changes.proofs.entry.fold.Given as goal

abbrev pub invariant-loop-one : goal.invariant-loop-one
invariant-loop-one l =
    (lines : List Line) → AreBegun (acts lines) l.begun → AreKept lines l.changes →
    IsFolded lines l.x l.first (tops_ranked (take l.one-index l.ranked)) l.entry
