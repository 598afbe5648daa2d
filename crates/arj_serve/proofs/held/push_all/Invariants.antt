use Rattle.std.proofs.Common.{◌≡◌, ◌++◌, take}
use Rattle.arj_serve.proofs.held.push_all.Given as goal

-- those so far stand at the end
abbrev pub invariant-loop-uid : goal.invariant-loop-uid
invariant-loop-uid l = l.all ≡ l.fn.all ++ take l.uid-index l.uids
