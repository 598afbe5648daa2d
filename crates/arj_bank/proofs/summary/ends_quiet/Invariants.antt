-- what is left says the same as all
use Rattle.std.proofs.Common.{◌≡◌, drop, false}
use Rattle.arj_bank.specs.Summary.{last_quiet}
use Rattle.arj_bank.proofs.summary.ends_quiet.Given as goal

abbrev pub invariant-loop-line : goal.invariant-loop-line
invariant-loop-line l = last_quiet (drop l.line-index l.lines) l.quiet ≡ last_quiet l.lines false
