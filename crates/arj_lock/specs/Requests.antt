-- What a request meets in a table, and what it asks.
use Rattle.std.specs.Prelude.{◌≡◌, List, Bool, true, if◌then◌else◌, nat_lt, Option, Some, None, Contains}
use Rattle.std.specs.Option.{option_map}
use Rattle.arj_base.specs.declared.mode.Mode.{Mode}
use Rattle.arj_base.specs.declared.mode.Mode.TheVariants.{Read}
use Rattle.arj_base.specs.declared.path.Path.{Path}
use Rattle.arj_base.specs.declared.uid.Uid.{Uid}
use Rattle.arj_base.specs.Mode.{conflicting, mode_code}
use Rattle.arj_base.specs.Path.{uids_of, tops_of}
use Rattle.arj_base.specs.Rows.{Row, last_uid, is_on, is_row_of, first_conflict}

-- the row that a request by the action with this path asks for
abbrev pub asked : Path → Uid → Mode → Row
asked path object mode = record { object = object; holder = uids_of path; tops = tops_of path; mode = mode }

-- holder and mode of the row that is named where a request conflicts
abbrev pub conflict_with : List Uid → Uid → Mode → List Row → Option (Uid × Mode)
conflict_with path object mode rows = option_map (λ row. (last_uid row.holder, row.mode)) (first_conflict path object mode rows)

-- A grant of this mode raises what the action has: it has nothing, or something weaker.
abbrev pub is_rise : Option Mode → Mode → Bool
is_rise None mode = true
is_rise (Some held) mode = nat_lt (mode_code held) (mode_code mode)

-- each row of the object that conflicts with the mode is held by an action on the path
abbrev pub IsClear : List Uid → Uid → Mode → List Row → Type 0
IsClear path object mode rows =
    (r : Row) → Contains rows r → r.object ≡ object → conflicting r.mode mode ≡ true → is_on path (last_uid r.holder) ≡ true

-- the action's row of the object is lowered to read
abbrev pub lowered : Uid → Uid → Row → Row
lowered action object row = if is_row_of object action row then record row { mode = Read } else row
