use Rattle.std.proofs.Common.{take}
use Rattle.arj_clean.specs.Standing.{StandsBehind}
use Rattle.arj_clean.proofs.standing.Standing.behind.Given as goal

abbrev pub invariant-loop-line : goal.invariant-loop-line
invariant-loop-line l = StandsBehind (take l.line-index l.lines) l.standing
