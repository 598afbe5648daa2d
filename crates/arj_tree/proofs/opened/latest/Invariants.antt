use Rattle.std.proofs.Common.{◌≡◌, None}
use Rattle.arj_tree.specs.Open.{latest}
use Rattle.arj_tree.proofs.opened.latest.Given as goal

-- what is left answers the same as the whole
abbrev pub invariant-loop-path : goal.invariant-loop-path
invariant-loop-path l = latest l.action l.found l.path-iterator ≡ latest l.action None l.opened.entries
