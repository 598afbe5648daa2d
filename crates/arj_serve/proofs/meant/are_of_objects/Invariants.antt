use Rattle.std.proofs.Common.{◌≡◌, length}
use Rattle.arj_protocol.specs.Node.{are_of_objects}
use Rattle.arj_serve.proofs.meant.are_of_objects.Given as goal

-- the states that are left give the same as all
abbrev pub invariant-loop-state : goal.invariant-loop-state
invariant-loop-state l = are_of_objects l.left ≡ are_of_objects l.states

abbrev pub decreases-loop-state : goal.decreases-loop-state
decreases-loop-state l = length l.left
