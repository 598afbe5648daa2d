use Rattle.std.proofs.Common.{◌≡◌, ◌&&◌, find}
use Rattle.arj_lock.specs.Groups.{is_after}
use Rattle.arj_lock.specs.Held.{is_top_of}
use Rattle.arj_lock.specs.Locks.{shown}
use Rattle.arj_lock.proofs.Nexts.{left_after}
use Rattle.arj_lock.proofs.tops.is_any_top.Given as goal

-- one of which it is the top comes after those that were stepped past
abbrev pub invariant-loop-grant : goal.invariant-loop-grant
invariant-loop-grant l =
    find (λ e. is_after l.after e.0 && is_top_of l.action (shown e.1)) l.grants ≡ find (λ e. is_top_of l.action (shown e.1)) l.grants

abbrev pub decreases-loop-grant : goal.decreases-loop-grant
decreases-loop-grant l = left_after l.after l.grants
