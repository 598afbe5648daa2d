use Rattle.std.proofs.Common.{◌≡◌, drop}
use Rattle.arj_protocol.specs.Copy.{over_of}
use Rattle.arj_manager.specs.Stack.{stack_of}
use Rattle.arj_manager.proofs.overlay.own.Given as goal

-- what is left answers the same as the whole
abbrev pub invariant-loop-overlay : goal.invariant-loop-overlay
invariant-loop-overlay l = over_of l.action (stack_of (drop l.overlay-index l.stack)) ≡ over_of l.action (stack_of l.stack)
