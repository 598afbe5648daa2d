-- The index of a lock table.
use Rattle.std.specs.Prelude.{ℕ, ◌≡◌, ◌<◌, ◌≤◌, ◌||◌, ◌&&◌, Bool, true, false, not, if◌then◌else◌, List, [], ◌∷◌, Option, Some, None, ⊤}
use Rattle.std.specs.Borrow.{Bor}
use Rattle.std.specs.BTreeMap.{is_at}
use Rattle.std.specs.BTreeSet.{BTreeSet, contains}
use Rattle.std.specs.List.Sorted.{IsStrictlySortedBy}
use Rattle.std.specs.Map.{keys_of, lookup}
use Rattle.std.specs.Ordering.{is_eq, nat_cmp}
use Rattle.arj_lock.specs.Groups.{has, member_order}
use Rattle.arj_lock.specs.Locks.{shown}
use Rattle.arj_lock.specs.declared.group.Group.{Group}
use Rattle.arj_lock.specs.declared.group.Member.{Member}
use Rattle.arj_lock.specs.declared.lock.Lock.{Lock}

-- this grant is a member of the group
abbrev pub stands : BTreeSet Member → Group → ℕ → Bool
stands index g n = contains member_order index (record { group = g; grant = n })

-- a lock, if there is one, is in the group
abbrev pub has_lock : Group → Option Lock → Bool
has_lock g None = false
has_lock g (Some lock) = has g (shown lock)

-- the members of each group are the locks that are in it
abbrev pub AreIndexed : (ℕ → Option Lock) → BTreeSet Member → Type 0
AreIndexed at index = (g : Group) (n : ℕ) → stands index g n ≡ has_lock g (at n)

-- and so where the index is whole
abbrev pub IsIndex : (ℕ → Option Lock) → Bool → BTreeSet Member → Type 0
IsIndex at true index = AreIndexed at index
IsIndex at false index = ⊤

-- one more lock is in all its groups
abbrev pub Joins : ℕ → Lock → BTreeSet Member → BTreeSet Member → Type 0
Joins grant lock old new = (g : Group) (n : ℕ) → stands new g n ≡ (stands old g n || (is_eq (nat_cmp grant n) && has g (shown lock)))

-- a lock isn't in its groups any more
abbrev pub Leaves : ℕ → Lock → BTreeSet Member → BTreeSet Member → Type 0
Leaves grant lock old new = (g : Group) (n : ℕ) → stands new g n ≡ (stands old g n && not (is_eq (nat_cmp grant n) && has g (shown lock)))

-- with a lock under this grant
abbrev pub put_lock : ℕ → Lock → (ℕ → Option Lock) → ℕ → Option Lock
put_lock grant lock at n = if is_eq (nat_cmp grant n) then Some lock else at n

-- without the lock under this grant
abbrev pub without_lock : ℕ → (ℕ → Option Lock) → ℕ → Option Lock
without_lock grant at n = if is_eq (nat_cmp grant n) then None else at n

-- the least number that passes a test, if one does
abbrev pub IsFirst : (ℕ → Bool) → Option ℕ → Type 0
IsFirst test None = (m : ℕ) → test m ≡ false
IsFirst test (Some n) = (test n ≡ true) × ((m : ℕ) → test m ≡ true → n ≤ m)

-- the lock under a grant
abbrev pub lock_at : ℕ → List (ℕ × Lock) → Option Lock
lock_at n grants = lookup (is_at (nat_cmp n)) grants

-- what there is of locks with their grants is found in place
abbrev pub IsFound : Option (ℕ × Lock) → Option (ℕ × Bor Lock) → Type 0
IsFound there None = there ≡ None
IsFound there (Some e) = there ≡ Some (e.0, e.1.now)

-- locks in order of granting, and their index, if it is whole
pub record AreKept (grants : List (ℕ × Lock)) (whole : Bool) (index : BTreeSet Member) : Type 0 where
  pub sorted : IsStrictlySortedBy nat_cmp (keys_of grants)
  pub indexed : IsIndex (λ n. lock_at n grants) whole index

-- all grants are below this number
abbrev pub IsAbove : List (ℕ × Lock) → ℕ → Type 0
IsAbove [] n = ⊤
IsAbove (e ∷ es) n = (e.0 < n) × IsAbove es n
