-- what is left puts what all do
use Rattle.std.specs.Prelude.{◌≡◌, drop}
use Rattle.arj_resuming.proofs.given.given_labels.Given as goal
use Rattle.arj_resuming.specs.Given.{given_after, labels_in}

abbrev pub invariant-loop-line : goal.invariant-loop-line
invariant-loop-line l = given_after l.given.keys (drop l.line-index l.lines) ≡ labels_in l.fn.lines
