-- Locks that are held to the commit, by the tables of the nodes.
use Rattle.std.specs.Prelude.{Bool, List, [], false, if◌then◌else◌, take, true, ℕ, ◌&&◌, ◌<◌, ◌==◌, ◌∷◌, ◌≡◌, ◌≤◌}
use Rattle.std.specs.List.{AllByRecursion, list_any}
use Rattle.arj_base.specs.Rows.{Row}
use Rattle.arj_base.specs.Uid.{nobody, object, uid_eq}
use Rattle.arj_base.specs.declared.uid.Uid.{Uid}
use Rattle.arj_class.specs.Table.{is_write, writes}
use Rattle.arj_journal.specs.declared.body.Line.{Line}
use Rattle.arj_model.specs.Actions.{acts}
use Rattle.arj_model.specs.Calls.{Call, committed_calls, tops}
use Rattle.arj_model.specs.Last.{uid_of_id}
use Rattle.arj_model.specs.Serial.{root_of, unit_place}
use Rattle.arj_model.specs.Table.{table}

-- the rows of each node's lock table after so many lines
abbrev pub Tables : Type 0
Tables = ℕ → ℕ → List Row

-- the number of the root of a call's top, and its Uid
abbrev pub root_of_call : List Line → Call → ℕ
root_of_call lines c = root_of (tops lines) c.top

-- the Uid of that root
abbrev pub root_uid : List Line → Call → Uid
root_uid lines c = uid_of_id (acts lines) (root_of_call lines c)

-- the place at which the commit of the last member of a call's unit was called
abbrev pub unit_end : List Line → Call → ℕ
unit_end lines c = unit_place (tops lines) (root_of_call lines c)

-- the first Uid of a path: its root
abbrev pub first_of : List Uid → Uid
first_of [] = nobody
first_of (u ∷ us) = u

-- the root of a row's holder
abbrev pub holder_root : Row → Uid
holder_root row = first_of row.holder

-- the row locks the call's object for its root, in a mode that the call needs
abbrev pub locks_for : List Line → Call → Row → Bool
locks_for lines c row =
    uid_eq row.object (object c.x) && (uid_eq (holder_root row) (root_uid lines c) && (if writes c.op then is_write row.mode else true))

-- From its `ok` line to the `committing` line of the last member of its unit a call is locked for at this node.
pub record IsHeldAt (lines : List Line) (tables : Tables) (n : ℕ) (c : Call) : Type 0 where
  pub answered : c.at < unit_end lines c
  pub locked : (p : ℕ) → c.at < p → p ≤ unit_end lines c → list_any (locks_for lines c) (tables n p) ≡ true

-- so each surviving call of a committed top, at a node of its own
abbrev pub AreHeld : List Line → Tables → (Call → ℕ) → Type 0
AreHeld lines tables node = AllByRecursion (λ c. IsHeldAt lines tables (node c) c) (committed_calls lines)

-- calls of one object and of different units, the second of which was answered while the first was held, are held at one
-- node
abbrev pub AreAtOneNode : List Line → (Call → ℕ) → Call → Call → Type 0
AreAtOneNode lines node c d =
    (root_of_call lines c == root_of_call lines d) ≡ false → c.x ≡ d.x → c.at < d.at → d.at < unit_end lines c → node c ≡ node d

-- the lock tables that the journal shows
abbrev pub tables_of : List Line → Tables
tables_of lines n p = table n (take p lines)
