use Rattle.std.proofs.Common.{◌≤◌}
use Rattle.arj_bench.proofs.locks.request_all.Given as goal

-- no more grants than requests
abbrev pub invariant-loop-k : goal.invariant-loop-k
invariant-loop-k l = l.granted ≤ l.k
