-- A lock table is a list of rows in order of granting. A row's holder is the path of the action that holds the
-- lock, from its root to itself, and `tops` says how many leading Uids of it end with its top.
use Rattle.std.specs.Prelude.{ℕ, List, [], ◌∷◌, length, Bool, false, ◌&&◌, if◌then◌else◌, filter, map, find, Option, Some, None, not}
use Rattle.std.specs.Prelude.{nat_lt}
use Rattle.std.specs.List.{list_any, filter_map}
use Rattle.std.specs.Option.{option_map}
use Rattle.arj_base.specs.declared.mode.Mode.{Mode}
use Rattle.arj_base.specs.declared.mode.Mode.TheVariants.{Read}
use Rattle.arj_base.specs.declared.uid.Uid.{Uid}
use Rattle.arj_base.specs.Mode.{conflicting, stronger}
use Rattle.arj_base.specs.Path.{before_last}
use Rattle.arj_base.specs.Uid.{uid_eq, nobody}

pub record Row : Type 0 where
  pub object : Uid
  pub holder : List Uid
  pub tops : ℕ
  pub mode : Mode

-- the last Uid of a path
abbrev pub last_uid : List Uid → Uid
last_uid [] = nobody
last_uid (u ∷ []) = u
last_uid (u ∷ w ∷ us) = last_uid (w ∷ us)

-- the path without its last Uid
abbrev pub front : List Uid → List Uid
front [] = []
front (u ∷ []) = []
front (u ∷ w ∷ us) = u ∷ front (w ∷ us)

-- the Uid is on the path
abbrev pub is_on : List Uid → Uid → Bool
is_on us u = list_any (λ w. uid_eq w u) us

-- the row is of this object and held by the action itself
abbrev pub is_row_of : Uid → Uid → Row → Bool
is_row_of object action row = uid_eq row.object object && uid_eq (last_uid row.holder) action

-- A grant gives the action's row of the object the stronger mode, in its place, or puts a row at the end.
abbrev pub grant_row : Row → List Row → List Row
grant_row new [] = new ∷ []
grant_row new (row ∷ rows) =
    if is_row_of new.object (last_uid new.holder) row then record row {
      mode =
          stronger row.mode new.mode;
    } ∷ rows else row ∷ grant_row new rows

-- what is left when the rows of an action and of its descendants go
abbrev pub drop_rows : Uid → List Row → List Row
drop_rows action rows = filter (λ row. not (is_on row.holder action)) rows

-- what is left when the rows of an object go
abbrev pub close_rows : Uid → List Row → List Row
close_rows object rows = filter (λ row. not (uid_eq row.object object)) rows

-- the action's row of the object is lowered to read, in its place
abbrev pub lower_row : Uid → Uid → List Row → List Row
lower_row action object rows = map (λ row. if is_row_of object action row then record row { mode = Read } else row) rows

-- the row is held by the action itself, whatever its object
abbrev pub is_held_by : Uid → Row → Bool
is_held_by action row = uid_eq (last_uid row.holder) action

-- the action has a row of the object
abbrev pub has_row : Uid → Uid → List Row → Bool
has_row object action rows = list_any (is_row_of object action) rows

-- the action's row of the object, and the mode that it has on it
abbrev pub row_of : Uid → Uid → List Row → Option Row
row_of object action rows = find (is_row_of object action) rows

-- the mode in which the action's own row has the object
abbrev pub mode_of : Uid → Uid → List Row → Option Mode
mode_of object action rows = option_map (λ row. row.mode) (row_of object action rows)

-- the action or a descendant of it has a row
abbrev pub has_any : Uid → List Row → Bool
has_any action rows = list_any (λ row. is_on row.holder action) rows

-- the row in the name of the Uid before its holder
abbrev pub renamed : Row → Row
renamed row =
    record row {
      holder = front row.holder;
      tops =
          if nat_lt (length (front row.holder)) row.tops then length (front row.holder) else row.tops;
    }

-- this holder is the heir, if there is one
abbrev pub is_heir : Option Uid → Uid → Bool
is_heir None holder = false
is_heir (Some heir) holder = uid_eq heir holder

-- a row of the action that goes to this row's holder: it is of the same object, and the holder is the Uid before the action
abbrev pub goes_to : Uid → Row → Row → Bool
goes_to action row passing = is_row_of row.object action passing && is_heir (before_last passing.holder) (last_uid row.holder)

-- the row in the stronger mode of its own and of what passes to it
abbrev pub strengthened : Row → Option Row → Row
strengthened row None = row
strengthened row (Some passing) = record row { mode = stronger row.mode passing.mode }

-- what a passing row becomes: it goes where it has no heir, or where its heir has a row already
abbrev pub handed_on : List Row → Row → Option Uid → Option Row
handed_on rows row None = None
handed_on rows row (Some heir) = if has_row row.object heir rows then None else Some (renamed row)

-- what a row becomes where the action's rows pass
abbrev pub passed : Uid → List Row → Row → Option Row
passed action rows row =
    if is_held_by action row then handed_on rows row (before_last row.holder) else Some (strengthened row (find (goes_to action row) rows))

-- An action's rows pass to the Uid before it on its path, each in its place. Where that one has a row of the object
-- already, that row takes the stronger mode and keeps its place, and the action's row goes. Where the action is the
-- first of its path, its rows go.
abbrev pub pass_rows : Uid → List Row → List Row
pass_rows action rows = filter_map (passed action rows) rows

-- the row stands against a request for the object in this mode by the action with this path
abbrev pub is_against : List Uid → Uid → Mode → Row → Bool
is_against path object mode row = uid_eq row.object object && (not (is_on path (last_uid row.holder)) && conflicting row.mode mode)

-- the conflict that is named: the first such row in order of granting
abbrev pub first_conflict : List Uid → Uid → Mode → List Row → Option Row
first_conflict path object mode rows = find (is_against path object mode) rows
