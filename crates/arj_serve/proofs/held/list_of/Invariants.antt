use Rattle.std.proofs.Common.{◌≡◌, ◌++◌}
use Rattle.arj_serve.proofs.held.list_of.Given as goal

-- the Uids so far, and those that are left
abbrev pub invariant-loop-uid : goal.invariant-loop-uid
invariant-loop-uid l = l.list ++ l.uid-iterator ≡ l.set.keys
