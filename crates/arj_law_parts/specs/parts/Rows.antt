-- The locks on one entry, as naming keeps them.
use Rattle.std.specs.Prelude.{◌≡◌, ◌≤◌, ℕ, List, Bool, true, false, Contains}
use Rattle.arj_base.specs.declared.uid.Uid.{Uid}
use Rattle.arj_base.specs.Mode.{mode_code}
use Rattle.arj_base.specs.Rows.{Row, last_uid, has_any}
use Rattle.arj_base.specs.Uid.{entry}
use Rattle.arj_lock.specs.Exclusion.{AreApart, IsOneEach}
use Rattle.arj_law_parts.specs.parts.Tops.{Owners, stands_above, IsHolder}

-- an action's end, and whether naming was told of it
abbrev pub Told : Type 0
Told = Uid → Bool

-- the action has a lock that is at least as strong as this
abbrev pub HasLock : Uid → ℕ → List Row → Type 0
HasLock u strength rows = (r : Row) × (Contains rows r) × (last_uid r.holder ≡ u) × (strength ≤ mode_code r.mode)

-- The locks on the entry of object x: their holders have paths; locks that conflict are of one action and its owner; an
-- action has one; and whoever was told of its end has none, nor is on the path of one.
pub record AreGoodRows (owner : Owners) (told : Told) (x : ℕ) (rows : List Row) : Type 0 where
  pub objects : (r : Row) → Contains rows r → r.object ≡ entry x
  pub holders : (r : Row) → Contains rows r → IsHolder owner r.holder
  pub apart : AreApart (stands_above owner) rows
  pub one : IsOneEach rows
  pub none : (u : Uid) → told u ≡ true → has_any u rows ≡ false
