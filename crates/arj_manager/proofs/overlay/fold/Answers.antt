use Rattle.std.proofs.Common.{sym, ◌∙◌, ap}
use Rattle.arj_manager.specs.Stack.{stack_of, is_deepest}
use Rattle.arj_manager.proofs.Folds.{fold_none}
use Rattle.arj_manager.proofs.overlay.fold.Goals as goal

pub returns-in_default : goal.returns-in_default
returns-in_default c =
    fold_none c.args.action c.args.stack.now.items c.index.result.now c.index.ensures (ap (λ s. is_deepest c.args.action (stack_of s)) (sym c.as_slice.ensures.value) ∙ sym c.if-not-is_deepest.ensures) c.in_default.ensures c.requires
