-- The first is asked of the lines that are left.
use Rattle.std.proofs.Common.{◌≡◌, drop}
use Rattle.arj_main.specs.Refusals.{first_refused}
use Rattle.arj_main.proofs.refused.first_refused.Given as goal

abbrev pub invariant-loop-line : goal.invariant-loop-line
invariant-loop-line l = first_refused (drop l.line-index l.journal) ≡ first_refused l.journal
