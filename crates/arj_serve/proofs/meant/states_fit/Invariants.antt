use Rattle.std.specs.List.{AllByRecursion}
use Rattle.std.proofs.Common.{length}
use Rattle.arj_base.specs.State.{StateInForm}
use Rattle.arj_msg.specs.Sendable.{StateSends}
use Rattle.arj_serve.proofs.meant.states_fit.Given as goal

-- the states that are left can be sent, and where they are in form all are
abbrev pub invariant-loop-state : goal.invariant-loop-state
invariant-loop-state l =
    record { sends : AllByRecursion StateSends l.left; form : AllByRecursion StateInForm l.left → AllByRecursion StateInForm l.states }

abbrev pub decreases-loop-state : goal.decreases-loop-state
decreases-loop-state l = length l.left
