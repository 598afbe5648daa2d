-- It belongs behind those that were passed.
use Rattle.std.proofs.Common.{◌≡◌, ◌++◌, drop, take}
use Rattle.arj_journal.specs.declared.header.ObjectLine.{ObjectLine}
use Rattle.arj_script.specs.Grammar.{insert_object}
use Rattle.arj_script.proofs.place.place_among.Given as goal

abbrev pub invariant-loop-at : goal.invariant-loop-at
invariant-loop-at l =
    (o : ObjectLine) → o.x ≡ l.x → take l.at l.objects ++ insert_object o (drop l.at l.objects) ≡ insert_object o l.objects
