use Rattle.std.proofs.Common.{◌≡◌, ◌++◌, drop}
use Rattle.arj_protocol.specs.Ending.{up_to}
use Rattle.arj_coord.proofs.tolds.up_to.Given as goal

-- the ends so far, and those that are left
abbrev pub invariant-loop-end : goal.invariant-loop-end
invariant-loop-end l = l.some ++ up_to l.action (drop l.end-index l.ends) ≡ up_to l.action l.ends
