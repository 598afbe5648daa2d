-- Whose locks a table has.
use Rattle.std.specs.Prelude.{Bool, ◌&&◌, nat_le, List, Contains, ◌↔◌, map, filter, take}
use Rattle.std.specs.List.{list_any}
use Rattle.std.specs.List.Sorted.{IsStrictlySortedBy}
use Rattle.std.specs.declared.cmp.Ordering.{Ordering}
use Rattle.arj_base.specs.contracts.uid.UidOrd.TheImpl as uid_ord
use Rattle.arj_base.specs.Order.{uid_order}
use Rattle.arj_base.specs.declared.uid.Uid.{Uid}
use Rattle.arj_base.specs.Mode.{mode_code}
use Rattle.arj_base.specs.Path.{top_uid}
use Rattle.arj_base.specs.Rows.{Row, is_on, is_row_of, last_uid}

-- the order in which a set of Uids keeps them, the one of `cmp`: it is `uid_order`
abbrev pub set_order : Uid → Uid → Ordering
set_order = (uid_ord.ghosts).cmp

-- the top of the holder's path
abbrev pub top_of : Row → Uid
top_of row = top_uid row.tops row.holder

-- the action is the top of the row's holder, or stands above that top
abbrev pub is_top_of : Uid → Row → Bool
is_top_of action row = is_on (take row.tops row.holder) action

-- and so for one of these rows
abbrev pub is_any_top : Uid → List Row → Bool
is_any_top action rows = list_any (λ row. is_top_of action row) rows

-- the row is the action's own write lock on the object
abbrev pub is_write_of : Uid → Uid → Row → Bool
is_write_of object action row = is_row_of object action row && nat_le 2 (mode_code row.mode)

-- and so for one of these rows
abbrev pub is_any_write : Uid → Uid → List Row → Bool
is_any_write object action rows = list_any (λ row. is_write_of object action row) rows

-- the action that holds a row
abbrev pub holder_of : Row → Uid
holder_of row = last_uid row.holder

-- these Uids, each once, in increasing order
pub record AreListed (uids : List Uid) (listed : List Uid) : Type 0 where
  pub each : (u : Uid) → Contains listed u ↔ Contains uids u
  pub increasing : IsStrictlySortedBy uid_order listed

-- the tops of these rows, each once, increasing
abbrev pub AreTops : List Row → List Uid → Type 0
AreTops rows tops = AreListed (map top_of rows) tops

-- the holders of the rows of an action and of its descendants, in order of granting
abbrev pub below : Uid → List Row → List Uid
below action rows = map holder_of (filter (λ row. is_on row.holder action) rows)

-- the holders of the rows that go where the action's rows and those of its descendants are dropped, each once, increasing
abbrev pub AreBelow : Uid → List Row → List Uid → Type 0
AreBelow action rows holders = AreListed (below action rows) holders
