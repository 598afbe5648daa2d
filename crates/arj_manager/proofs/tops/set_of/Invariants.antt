use Rattle.std.proofs.Common.{◌≡◌, ◌||◌, drop}
use Rattle.std.specs.BTreeSet.{contains, IsOrdered}
use Rattle.std.specs.Ordering.{eq_by_cmp}
use Rattle.std.specs.Set.{is_member}
use Rattle.arj_base.specs.declared.uid.Uid.{Uid}
use Rattle.arj_lock.specs.Held.{set_order}
use Rattle.arj_manager.proofs.tops.set_of.Given as goal

-- the set, with those that are left, has them all
abbrev pub invariant-loop-uid : goal.invariant-loop-uid
invariant-loop-uid l = record {
  all : (u : Uid) →
      (contains set_order l.set u || is_member (eq_by_cmp set_order) (drop l.uid-index l.uids) u) ≡ is_member (eq_by_cmp set_order) l.uids u;
  ordered : IsOrdered set_order l.set;
}
