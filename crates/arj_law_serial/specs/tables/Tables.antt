-- The table of a journal, object by object, against what lines do to locks by the laws of the protocol.
use Rattle.std.specs.Prelude.{◌≡◌, ◌==◌, ℕ, Bool, true, false, filter, List, [], ◌∷◌}
use Rattle.arj_base.specs.Rows.{Row}
use Rattle.arj_base.specs.Uid.{uid_eq}
use Rattle.arj_base.specs.declared.uid.Uid.{Uid}
use Rattle.arj_journal.specs.declared.body.Body.{Body}
use Rattle.arj_journal.specs.declared.body.Body.TheVariants as body
use Rattle.arj_journal.specs.declared.body.Line.{Line}
use Rattle.arj_journal.specs.declared.body.Part.{Part}
use Rattle.arj_journal.specs.declared.body.Part.TheVariants as part
use Rattle.arj_model.specs.Actions.{Act, tops_in, uids}
use Rattle.arj_model.specs.Table.{is_entry, path_by, table_step, up_step}
use Rattle.arj_protocol.specs.Follow.{alone}
use Rattle.arj_protocol.specs.Laws.{Holders, rows_by}

-- the rows on this object
abbrev pub rows_on : Uid → List Row → List Row
rows_on o rows = filter (λ r. uid_eq r.object o) rows

-- entries are naming's, all other objects are servers'
abbrev pub IsOfPart : Part → Uid → Type 0
IsOfPart part.Naming o = is_entry o ≡ true
IsOfPart part.Server o = is_entry o ≡ false

-- the paths of holders: those of the actions begun so far, but where a restart gives locks back each action alone
abbrev pub holders_in : Bool → List Act → Holders
holders_in true begun = alone
holders_in false begun = record { path = λ u. uids (path_by begun u); tops = λ u. tops_in (path_by begun u) }

-- A line makes of a node's rows on an object in the journal's table what it makes of that object's locks by itself.
abbrev pub LinesGoByObjects : Type 0
LinesGoByObjects = (n : ℕ) (p : Part) (o : Uid) → IsOfPart p o → (begun : List Act) (up event : ℕ) (b : Body) (rows : List Row)
    → rows_on o (table_step n begun up event b rows) ≡ rows_by (holders_in (event == up) begun) n p o b (rows_on o rows)

-- the event of node n's last `up` line after these lines, from this one on
abbrev pub up_from : ℕ → ℕ → List Line → ℕ
up_from n up [] = up
up_from n up (line ∷ lines) = up_from n (up_step n line.event line.body up) lines

-- the event of its last `up` line, 0 before the first
abbrev pub up_of : ℕ → List Line → ℕ
up_of n lines = up_from n 0 lines

-- the line begins no action, and no node is up by it
abbrev pub is_steady : Body → Bool
is_steady (body.Began l k u p) = false
is_steady (body.Up m i) = false
is_steady b = true
