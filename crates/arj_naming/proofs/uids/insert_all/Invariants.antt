use Rattle.std.proofs.Common.{◌≡◌, ◌||◌, drop}
use Rattle.arj_base.specs.Rows.{is_on}
use Rattle.arj_base.specs.declared.uid.Uid.{Uid}
use Rattle.arj_naming.proofs.uids.insert_all.Given as goal

-- with the Uids that are left the set has what it has with all
abbrev pub invariant-loop-uid : goal.invariant-loop-uid
invariant-loop-uid l = (u : Uid) → (is_on l.set.keys u || is_on (drop l.uid-index l.uids) u) ≡ (is_on l.fn.set.keys u || is_on l.uids u)
