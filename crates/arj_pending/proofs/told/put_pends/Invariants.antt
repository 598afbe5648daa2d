-- What is told so far.
use Rattle.std.proofs.Common.{◌≡◌, ◌++◌, Bool, List, take}
use Rattle.std.specs.List.{flat_map}
use Rattle.arj_journal.specs.declared.body.Line.{Line}
use Rattle.arj_pending.specs.Behind.{StandsBehind}
use Rattle.arj_pending.specs.Told.{objects_text}
use Rattle.arj_pending.proofs.told.put_pends.Given as goal

abbrev pub invariant-loop-pend : goal.invariant-loop-pend
invariant-loop-pend l = (flags : List Bool) (lines : List Line) → StandsBehind flags lines l.standing →
    l.out ≡ l.fn.out ++ flat_map (objects_text l.header lines) (take l.pend-index l.pends)
