use Rattle.std.proofs.Common.{◌≡◌, List, map, take}
use Rattle.arj_journal.specs.declared.body.Line.{Line}
use Rattle.arj_model.specs.Actions.{acts, committed, recovered}
use Rattle.arj_reading.specs.Reading.{HasRead}
use Rattle.arj_replay.specs.Orders.{paths, survives}
use Rattle.arj_check.proofs.places.survivals.Given as goal

abbrev pub invariant-loop-number : goal.invariant-loop-number
invariant-loop-number l =
    (lines : List Line) → HasRead lines l.reading →
    l.tests.items ≡ map (survives (committed lines) (recovered lines)) (take l.number (paths (acts lines)))
