use Rattle.std.proofs.Common.{◌≡◌, filter, not, take}
use Rattle.arj_standing.specs.Doubts.{is_doubt}
use Rattle.arj_standing.proofs.doubts.without.Given as goal

abbrev pub invariant-loop-doubt : goal.invariant-loop-doubt
invariant-loop-doubt l = l.left.items ≡ filter (λ d. not (is_doubt l.node l.action l.role d)) (take l.doubt-index l.doubts)
