use Rattle.std.proofs.Common.{◌≡◌, take, map}
use Rattle.arj_protocol.specs.Step.{first_entry}
use Rattle.arj_naming.proofs.format.first_entries.Given as goal

-- the entries so far
abbrev pub invariant-loop-object : goal.invariant-loop-object
invariant-loop-object l = l.states ≡ map (first_entry l.format) (take l.object-index l.objects)
