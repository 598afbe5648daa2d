-- Held and entry held, at each line of a journal: which rows of the tables lock a call, an entry and an include.
use Rattle.std.specs.Prelude.{Bool, List, None, Option, Some, [], false, filter, if◌then◌else◌, length, true, ℕ, ◌&&◌, ◌<◌, ◌==◌, ◌∷◌, ◌≡◌}
use Rattle.std.specs.Prelude.{◌≤◌}
use Rattle.std.specs.List.{AllByRecursion, list_all, list_any}
use Rattle.arj_base.specs.Rows.{Row, is_on, last_uid}
use Rattle.arj_base.specs.Uid.{entry, uid_eq}
use Rattle.arj_base.specs.declared.uid.Uid.{Uid}
use Rattle.arj_class.specs.Table.{is_write}
use Rattle.arj_journal.specs.declared.body.Line.{Line}
use Rattle.arj_model.specs.Book.{OfEachTwo}
use Rattle.arj_model.specs.Held.{AreAtOneNode, AreHeld, locks_for, root_of_call, tables_of, unit_end}
use Rattle.arj_model.specs.Actions.{Act, Placed, acts, chain_in, committed, has_end, root_in, top_in, uids}
use Rattle.arj_model.specs.Calls.{Call, Said, Top, committed_calls, said, tops}
use Rattle.arj_model.specs.Last.{Inclusion, included}
use Rattle.arj_model.specs.Serial.{unit_place}
use Rattle.arj_model.specs.Table.{path_by}

-- the path of who made the call that was answered at this place
abbrev pub caller_at : ℕ → List (Placed Said) → List Uid
caller_at p [] = []
caller_at p (s ∷ ss) = if s.at == p then uids s.it.path else caller_at p ss

-- the row locks the object of the call in a mode that it needs, and is held on the path of who made it
abbrev pub locks_call : List Line → Call → Row → Bool
locks_call lines c row = locks_for lines c row && is_on (caller_at c.at (said lines)) (last_uid row.holder)

-- a number is there, and it is this one
abbrev pub is_number : Option ℕ → ℕ → Bool
is_number None n = false
is_number (Some m) n = m == n

-- the action is the root of this number or a top of it: nothing of its path is below the top
abbrev pub is_upper_of : List Line → ℕ → Uid → Bool
is_upper_of lines n u = is_number (root_in (path_by (acts lines) u)) n && (length (chain_in (path_by (acts lines) u)) == 0)

-- the row locks the entry of the call's object for its unit: it is held by the root, or by a top of it
abbrev pub locks_entry : List Line → Call → Row → Bool
locks_entry lines c row = uid_eq row.object (entry c.x) && is_upper_of lines (root_of_call lines c) (last_uid row.holder)

-- Entry held: the entry of the object of each surviving call of a committed top is locked at node 1, by the root of its unit or a top of
-- that root, from its `ok` line to the `committing` line of the last member of its unit.
abbrev pub EntriesAreHeld : List Line → Type 0
EntriesAreHeld lines = AllByRecursion (λ (c : Call). (p : ℕ) → c.at < p → p ≤ unit_end lines c →
    list_any (locks_entry lines c) (tables_of lines 1 p) ≡ true) (committed_calls lines)

-- the include is of this committed top, and survives in it
abbrev pub joins_top : List Line → Top → Placed Inclusion → Option Act → Bool
joins_top lines u i None = false
joins_top lines u i (Some a) = (a.id == u.id) && list_all (λ (b : Act). has_end (committed lines) b.id) (chain_in i.it.path)

-- the surviving includes of a committed top
abbrev pub joins_with : List Line → Top → List (Placed Inclusion)
joins_with lines u = filter (λ i. joins_top lines u i (top_in i.it.path)) (included lines)

-- the row is a write lock on the object's entry, held by the root or a top of it
abbrev pub writes_entry : List Line → ℕ → ℕ → Row → Bool
writes_entry lines x root row = uid_eq row.object (entry x) && (is_upper_of lines root (last_uid row.holder) && is_write row.mode)

-- Entry held, of an include: in these rows of naming its object's entry is locked for writing, by the root of the top's unit or a top of
-- that root.
abbrev pub IsWrittenIn : List Line → List Row → Top → ℕ → Type 0
IsWrittenIn lines names u x = list_any (writes_entry lines x u.root) names ≡ true

-- Each surviving call of a committed top is locked for at each line, on its caller's path, in the journal's table of this node of its own:
-- from its `ok` line to the `committing` line of the last member of its unit.
abbrev pub AreLockedByCallers : List Line → (Call → ℕ) → Type 0
AreLockedByCallers lines node = AllByRecursion (λ (c : Call). (p : ℕ) → c.at < p → p ≤ unit_end lines c →
    list_any (locks_call lines c) (tables_of lines (node c) p) ≡ true) (committed_calls lines)

-- The entry of each surviving include's object is locked for writing at each line in the table of node 1, by the root of the unit of the
-- top in which it survives, or by a top of that root: from its `includes` line to the `committing` line of the unit's last member.
abbrev pub AreWrittenAlong : List Line → Type 0
AreWrittenAlong lines = AllByRecursion (λ (u : Top). AllByRecursion (λ (i : Placed Inclusion). (p : ℕ) → i.at < p →
    p ≤ unit_place (tops lines) u.root → IsWrittenIn lines (tables_of lines 1 p) u i.it.x) (joins_with lines u)) (tops lines)

-- Held, and entry held, by the tables, at each line: each surviving call of a committed top has a node in whose table its object is locked
-- for its unit, and on its caller's path; in the table of node 1 its object's entry is, by the unit's root or a top of it, as is that of
-- each surviving include, for writing; and calls of one object and of different units that overlap are at one node.
pub record HoldsEach (lines : List Line) : Type 0 where
  pub node : Call → ℕ
  pub held : AreHeld lines (tables_of lines) node
  pub callers : AreLockedByCallers lines node
  pub entries : EntriesAreHeld lines
  pub includes : AreWrittenAlong lines
  pub at_one : OfEachTwo (AreAtOneNode lines node) (committed_calls lines)
