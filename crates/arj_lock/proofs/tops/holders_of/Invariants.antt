use Rattle.std.proofs.Common.{◌≡◌, ◌&&◌, ◌||◌}
use Rattle.std.specs.BTreeSet.{IsOrdered, contains}
use Rattle.std.specs.List.{list_any}
use Rattle.arj_base.specs.declared.uid.Uid.{Uid}
use Rattle.arj_lock.specs.Groups.{is_after}
use Rattle.arj_lock.specs.Held.{set_order}
use Rattle.arj_lock.specs.Locks.{shown}
use Rattle.arj_lock.proofs.Holders.{is_holder}
use Rattle.arj_lock.proofs.Nexts.{left_after}
use Rattle.arj_lock.proofs.tops.holders_of.Given as goal

-- with the holders of the locks that come after those so far they are all
abbrev pub invariant-loop-grant : goal.invariant-loop-grant
invariant-loop-grant l = record {
  members : (u : Uid) →
      (contains set_order l.holders u || list_any (λ e. is_after l.after e.0 && is_holder l.fn.action u (shown e.1)) l.grants) ≡ list_any (λ e. is_holder l.fn.action u (shown e.1)) l.grants;
  ordered : IsOrdered set_order l.holders;
}

abbrev pub decreases-loop-grant : goal.decreases-loop-grant
decreases-loop-grant l = left_after l.after l.grants
