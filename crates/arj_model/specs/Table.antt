-- The lock table of a node: the locks that are held there after a journal, in order of granting, folded from the lines
-- of that node since its last `up`.
use Rattle.std.specs.Prelude.{ℕ, List, [], ◌∷◌, Bool, true, false, ◌==◌, ◌&&◌, not, filter, Some, if◌then◌else◌}
use Rattle.std.specs.List.{filter_map}
use Rattle.arj_base.specs.declared.mode.Mode.{Mode}
use Rattle.arj_base.specs.declared.mode.End.{End}
use Rattle.arj_base.specs.declared.mode.End.TheVariants.{Abort, Commit}
use Rattle.arj_base.specs.declared.uid.Uid.{Uid}
use Rattle.arj_base.specs.Uid.{object, uid_eq}
use Rattle.arj_base.specs.Rows.{Row, grant_row, lower_row, close_rows, passed, is_on}
use Rattle.arj_journal.specs.declared.body.Body.{Body}
use Rattle.arj_journal.specs.declared.body.Body.TheVariants as body
use Rattle.arj_journal.specs.declared.body.Line.{Line}
use Rattle.arj_journal.specs.declared.body.Part.{Part}
use Rattle.arj_journal.specs.declared.body.Part.TheVariants as part
use Rattle.arj_model.specs.Actions.{Act, acts_after, path_in, uids, tops_in}

-- the path of the action with this Uid, from its root to itself
abbrev pub path_by : List Act → Uid → List Act
path_by [] u = []
path_by (a ∷ older) u = if uid_eq a.uid u then path_in older a else path_by older u

-- a Uid is an entry's where its node is 0 and its incarnation 1; any other is an object's
abbrev pub is_entry : Uid → Bool
is_entry o = (o.node == 0) && (o.inc == 1)

-- part `naming` has the locks on entries, part `server` those on objects
abbrev pub is_in_part : Part → Row → Bool
is_in_part part.Naming row = is_entry row.object
is_in_part part.Server row = not (is_entry row.object)

-- The row of a lock that was granted: its holder is the action's path. A restart that gives a lock back knows the action
-- alone.
abbrev pub granted_row : Bool → List Act → Uid → Uid → Mode → Row
granted_row true acts u o mode = record { object = o; holder = u ∷ []; tops = 1; mode = mode }
granted_row false acts u o mode = record { object = o; holder = uids (path_by acts u); tops = tops_in (path_by acts u); mode = mode }

-- The end of an action is applied in a part. A commit passes its rows to the Uid before it on its path, in their place;
-- an abort drops its rows and those of its descendants.
abbrev pub tell_rows : Part → Uid → End → List Row → List Row
tell_rows p u Commit rows = filter_map (λ row. if is_in_part p row then passed u rows row else Some row) rows
tell_rows p u Abort rows = filter (λ row. not (is_in_part p row && is_on row.holder u)) rows

-- The table of node n after a line of this event. `acts` has the actions begun before the line, and `up` the event of
-- the node's last `up` line: what is granted in that event the restart gave back.
abbrev pub table_step : ℕ → List Act → ℕ → ℕ → Body → List Row → List Row
table_step n acts up event (body.Granted m u o mode) rows =
    if m == n then grant_row (granted_row (event == up) acts u o mode) rows else rows
table_step n acts up event (body.Lowered m u o) rows = if m == n then lower_row u o rows else rows
table_step n acts up event (body.Active m x b) rows = if m == n then close_rows (object x) rows else rows
table_step n acts up event (body.Told m u end p) rows = if m == n then tell_rows p u end rows else rows
table_step n acts up event (body.Halted m) rows = if m == n then [] else rows
table_step n acts up event (body.Up m i) rows = if m == n then [] else rows
table_step n acts up event _ rows = rows

-- the event of node n's last `up` line, 0 before the first
abbrev pub up_step : ℕ → ℕ → Body → ℕ → ℕ
up_step n event (body.Up m i) up = if m == n then event else up
up_step n event _ up = up

-- the table after lines, from these actions, this `up` and these rows on
abbrev pub table_from : ℕ → List Act → ℕ → List Row → List Line → List Row
table_from n acts up rows [] = rows
table_from n acts up rows (line ∷ lines) =
    table_from n (acts_after acts line.body) (up_step n line.event line.body up) (table_step n acts up line.event line.body rows) lines

-- the lock table of node n after a journal
abbrev pub table : ℕ → List Line → List Row
table n lines = table_from n [] 0 [] lines
