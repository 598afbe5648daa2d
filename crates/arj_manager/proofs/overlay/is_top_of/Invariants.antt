use Rattle.std.proofs.Common.{◌≡◌, drop}
use Rattle.std.specs.Option.{option_map}
use Rattle.arj_protocol.specs.Copy.{is_top_over, over_of}
use Rattle.arj_manager.specs.Stack.{stack_of}
use Rattle.arj_manager.proofs.overlay.is_top_of.Given as goal

-- what is left answers the same as the whole
abbrev pub invariant-loop-overlay : goal.invariant-loop-overlay
invariant-loop-overlay l =
    option_map is_top_over (over_of l.action (stack_of (drop l.overlay-index l.stack))) ≡ option_map is_top_over (over_of l.action (stack_of l.stack))
