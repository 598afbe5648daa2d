use Rattle.std.proofs.Common.{◌≡◌, ◌||◌, ℕ}
use Rattle.arj_lock.specs.Index.{has_lock, lock_at, stands}
use Rattle.arj_lock.specs.declared.group.Group.{Group}
use Rattle.arj_lock.proofs.Entries.{Rises}
use Rattle.arj_lock.proofs.index.made.Given as goal

-- with the locks that are left they are the members of all
abbrev pub invariant-loop-grant : goal.invariant-loop-grant
invariant-loop-grant l = record {
  members : (g : Group) (n : ℕ) → (stands l.index g n || has_lock g (lock_at n l.grant-iterator)) ≡ has_lock g (lock_at n l.locks.entries);
  sorted : Rises l.grant-iterator;
}
