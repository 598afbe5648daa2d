-- What is told so far.
use Rattle.std.proofs.Common.{◌≡◌, ◌++◌, take}
use Rattle.std.specs.List.{flat_map}
use Rattle.arj_last.specs.Told.{first_text}
use Rattle.arj_last.proofs.told.put_first_states.Given as goal

abbrev pub invariant-loop-object : goal.invariant-loop-object
invariant-loop-object l = l.out ≡ l.fn.out ++ flat_map first_text (take l.object-index l.objects)
