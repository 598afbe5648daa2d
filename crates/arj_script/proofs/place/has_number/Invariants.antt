-- Whether one has the number is asked of those that are left.
use Rattle.std.proofs.Common.{◌≡◌, drop}
use Rattle.arj_script.specs.Grammar.{has_object}
use Rattle.arj_script.proofs.place.has_number.Given as goal

abbrev pub invariant-loop-other : goal.invariant-loop-other
invariant-loop-other l = has_object l.x (drop l.other-index l.objects) ≡ has_object l.x l.objects
