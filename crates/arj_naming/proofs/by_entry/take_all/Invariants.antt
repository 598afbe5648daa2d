use Rattle.std.proofs.Common.{◌≡◌, ◌&&◌, drop, not}
use Rattle.arj_base.specs.declared.uid.Uid.{Uid}
use Rattle.arj_naming.specs.ByEntry.{is_of, stands_under}
use Rattle.arj_naming.proofs.by_entry.take_all.Given as goal

-- without the states that are left it is what it is without all
abbrev pub invariant-loop-state : goal.invariant-loop-state
invariant-loop-state l =
    (u act : Uid) →
    (stands_under l.by_entry.entries u act && not (is_of l.action (drop l.state-index l.states) u act)) ≡ (stands_under l.fn.by_entry.entries u act && not (is_of l.action l.states u act))
