use Rattle.std.proofs.Common.{◌≡◌, ◌++◌}
use Rattle.arj_coord.specs.Waiting.{waiting}
use Rattle.arj_coord.proofs.doings.Doings.numbers.Given as goal

-- the numbers so far, and those that are left
abbrev pub invariant-loop-number : goal.invariant-loop-number
invariant-loop-number l = l.numbers ++ l.number-iterator ≡ waiting 1 l.self
