-- One row of an action handed on to its heir.
use Rattle.std.specs.Prelude.{◌≡◌, ◌<◌, ℕ, ◌&&◌, List, length, filter, find, Bool, true, false, if◌then◌else◌, Option, Some, None, Contains}
use Rattle.std.specs.Option.{option_map}
use Rattle.arj_base.specs.declared.mode.Mode.{Mode}
use Rattle.arj_base.specs.declared.uid.Uid.{Uid}
use Rattle.arj_base.specs.Mode.{stronger}
use Rattle.arj_base.specs.Path.{before_last}
use Rattle.arj_base.specs.Rows.{Row, has_row, is_heir, is_held_by, is_row_of, last_uid, front, pass_rows, renamed, strengthened}
use Rattle.arj_lock.specs.Exclusion.{IsOneEach}

-- the heir's row of the object takes the stronger mode
abbrev pub raised : Uid → Uid → Mode → Row → Row
raised object heir mode row = if is_row_of object heir row then record row { mode = stronger row.mode mode } else row

-- a row in the hands of the Uid before its holder, if there is one
abbrev pub IsHandedUp : Row → Option Row → Type 0
IsHandedUp row None = before_last row.holder ≡ None
IsHandedUp row (Some up) = (up ≡ renamed row) × (before_last row.holder ≡ Some (last_uid up.holder))

-- how many rows pass a test
abbrev pub count : (Row → Bool) → List Row → ℕ
count test rows = length (filter test rows)

-- One row of the action's less is left to pass: to pass those that are left gives the same, and no action has two rows of
-- one object.
pub record PassesOne (action : Uid) (old new : List Row) : Type 0 where
  pub rows : pass_rows action new ≡ pass_rows action old
  pub one_each : IsOneEach new
  pub fewer : count (is_held_by action) new < count (is_held_by action) old

-- the action's row of the object that goes to this heir
abbrev pub passing : Uid → Uid → Uid → List Row → Option Row
passing action object heir rows = find (λ row. is_row_of object action row && is_heir (before_last row.holder) heir) rows

-- the mode that goes to the heir
abbrev pub passing_mode : Uid → Uid → Uid → List Row → Option Mode
passing_mode action object heir rows = option_map (λ row. row.mode) (passing action object heir rows)

-- A row after a pass: another holder's row in the stronger mode of its own and of what goes to it, or a row of the
-- action in its heir's name, where the heir had none of the object.
pub data CameBy (action : Uid) (rows : List Row) (new : Row) : Type 0 where
  stayed : (old : Row) → Contains rows old → is_held_by action old ≡ false →
      new ≡ strengthened old (passing action old.object (last_uid old.holder) rows) → CameBy action rows new
  passed_on : (old : Row) → Contains rows old → is_held_by action old ≡ true → (heir : Uid) → before_last old.holder ≡ Some heir →
      has_row old.object heir rows ≡ false → new ≡ renamed old → CameBy action rows new

-- where an heir has a row already, its path is the one in whose name the action's rows pass to it
abbrev pub HeirsAgree : Uid → List Row → Type 0
HeirsAgree action rows =
    (r s : Row) → Contains rows r → Contains rows s → is_held_by action r ≡ true → before_last r.holder ≡ Some (last_uid s.holder) →
    s.holder ≡ front r.holder
