use Rattle.std.proofs.Common.{◌≡◌, ◌&&◌, find}
use Rattle.arj_base.specs.Path.{uids_of}
use Rattle.arj_base.specs.Rows.{is_against}
use Rattle.arj_lock.specs.Groups.{is_after}
use Rattle.arj_lock.specs.Locks.{shown}
use Rattle.arj_lock.proofs.Nexts.{left_after}
use Rattle.arj_lock.proofs.tops.first_against.Given as goal

-- the first one that stands against the request comes after those that were stepped past
abbrev pub invariant-loop-grant : goal.invariant-loop-grant
invariant-loop-grant l =
    find (λ e. is_after l.after e.0 && is_against (uids_of l.path) l.fn.object l.fn.mode (shown e.1)) l.grants ≡ find (λ e. is_against (uids_of l.path) l.fn.object l.fn.mode (shown e.1)) l.grants

abbrev pub decreases-loop-grant : goal.decreases-loop-grant
decreases-loop-grant l = left_after l.after l.grants
