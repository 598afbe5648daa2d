-- Locks that are held, as rows of a lock table.
use Rattle.std.specs.Prelude.{List, map, ◌&&◌, if◌then◌else◌, Option, None, Some}
use Rattle.arj_base.specs.declared.uid.Uid.{Uid}
use Rattle.arj_base.specs.Rows.{is_on}
use Rattle.arj_base.specs.Uid.{uid_eq}
use Rattle.arj_journal.specs.declared.body.Part.{Part}
use Rattle.arj_model.specs.Table.{is_in_part}
use Rattle.arj_base.specs.declared.mode.Mode.{Mode}
use Rattle.arj_base.specs.Mode.{stronger}
use Rattle.arj_base.specs.Rows.{Row}
use Rattle.arj_standing.specs.declared.held.Held.{Held}

-- a lock, as a row
abbrev pub shown : Held → Row
shown h = record { object = h.object; holder = h.holder; tops = h.tops; mode = h.mode }

-- the rows of these locks
abbrev pub rows_of : List Held → List Row
rows_of hs = map shown hs

-- a row in the stronger mode of its own and this one, if there is one
abbrev pub with_mode : Row → Option Mode → Row
with_mode row None = row
with_mode row (Some m) = record row { mode = stronger row.mode m }

-- a row, unless an abort of the action in a part takes it
abbrev pub spared : Part → Uid → Row → Option Row
spared p u row = if is_in_part p row && is_on row.holder u then None else Some row

-- a row, unless it is of this object
abbrev pub other_row : Uid → Row → Option Row
other_row o row = if uid_eq row.object o then None else Some row
