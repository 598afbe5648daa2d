use Rattle.std.proofs.Common.{◌≡◌, drop, false}
use Rattle.arj_rest.specs.Nodes.{halted_from}
use Rattle.arj_rest.proofs.nodes.is_halted.Given as goal

abbrev pub invariant-loop-line : goal.invariant-loop-line
invariant-loop-line l = halted_from l.node l.halted (drop l.line-index l.lines) ≡ halted_from l.node false l.lines
