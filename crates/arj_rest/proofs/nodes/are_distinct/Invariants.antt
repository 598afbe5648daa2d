use Rattle.std.proofs.Common.{◌≡◌, drop}
use Rattle.arj_rest.specs.Nodes.{are_distinct}
use Rattle.arj_rest.proofs.nodes.are_distinct.Given as goal

abbrev pub invariant-loop-at : goal.invariant-loop-at
invariant-loop-at l = are_distinct (drop l.at l.numbers) ≡ are_distinct l.numbers
