-- What is told so far.
use Rattle.std.proofs.Common.{◌≡◌, ◌++◌, Bool, List, take}
use Rattle.std.specs.List.{flat_map}
use Rattle.arj_journal.specs.declared.body.Line.{Line}
use Rattle.arj_pending.specs.Behind.{StandsBehind}
use Rattle.arj_pending.specs.Told.{object_text}
use Rattle.arj_pending.proofs.told.put_objects.Given as goal

abbrev pub invariant-loop-object : goal.invariant-loop-object
invariant-loop-object l = (flags : List Bool) (lines : List Line) → StandsBehind flags lines l.standing →
    l.out ≡ l.fn.out ++ flat_map (object_text l.header lines l.pend) (take l.object-index l.objects)
