-- What is left of the lines says the same of the node.
use Rattle.std.proofs.Common.{◌≡◌, drop, false}
use Rattle.arj_model.specs.Refusals.{down_from}
use Rattle.arj_saving.proofs.stopping.is_down.Given as goal

abbrev pub invariant-loop-line : goal.invariant-loop-line
invariant-loop-line l = down_from l.node l.down (drop l.line-index l.lines) ≡ down_from l.node false l.lines
