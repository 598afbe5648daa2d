use Rattle.std.proofs.Common.{◌≡◌, ◌||◌, map}
use Rattle.std.specs.BTreeSet.{IsOrdered, contains}
use Rattle.std.specs.List.{list_any}
use Rattle.arj_base.specs.declared.uid.Uid.{Uid}
use Rattle.arj_lock.specs.Held.{set_order, top_of}
use Rattle.arj_lock.specs.Locks.{rows_in}
use Rattle.arj_lock.proofs.Holders.{is_same}
use Rattle.arj_lock.proofs.tops.tops_of.Given as goal

-- with the tops of the locks that are left they are all
abbrev pub invariant-loop-lock : goal.invariant-loop-lock
invariant-loop-lock l = record {
  members : (u : Uid) →
      (contains set_order l.tops u || list_any (is_same u) (map top_of (rows_in l.lock-iterator))) ≡ list_any (is_same u) (map top_of (rows_in l.grants));
  ordered : IsOrdered set_order l.tops;
}
