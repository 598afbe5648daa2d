use Rattle.std.proofs.Common.{◌≡◌, drop}
use Rattle.std.specs.List.{list_any}
use Rattle.arj_base.specs.Rows.{is_on}
use Rattle.arj_manager.specs.Stack.{stack_of}
use Rattle.arj_manager.proofs.overlay.is_on_any.Given as goal

-- what is left answers the same as the whole
abbrev pub invariant-loop-overlay : goal.invariant-loop-overlay
invariant-loop-overlay l =
    list_any (λ e. is_on e.holder l.action) (stack_of (drop l.overlay-index l.stack)) ≡ list_any (λ e. is_on e.holder l.action) (stack_of l.stack)
