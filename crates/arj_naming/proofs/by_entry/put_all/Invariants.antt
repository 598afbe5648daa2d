use Rattle.std.proofs.Common.{◌≡◌, ◌||◌, false, drop}
use Rattle.arj_base.specs.declared.uid.Uid.{Uid}
use Rattle.arj_naming.specs.ByEntry.{is_of, stands_under}
use Rattle.arj_naming.proofs.by_entry.put_all.Given as goal

-- with the states that are left it is what it is with all; under other entries, and of other actions, nothing changes
abbrev pub invariant-loop-state : goal.invariant-loop-state
invariant-loop-state l = record {
  all : (u act : Uid) →
      (stands_under l.by_entry.entries u act || is_of l.action (drop l.state-index l.states) u act) ≡ (stands_under l.fn.by_entry.entries u act || is_of l.action l.states u act);
  others : (u act : Uid) → is_of l.action l.states u act ≡ false →
      stands_under l.by_entry.entries u act ≡ stands_under l.fn.by_entry.entries u act;
}
