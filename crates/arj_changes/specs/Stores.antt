-- The stores of an object, by what is kept of exclusions and includes.
use Rattle.std.specs.Prelude.{◌≡◌, ℕ, List, ◌++◌, filter, Bool, false, ◌==◌, ◌&&◌, ◌||◌, not, if◌then◌else◌, Option, Some, None}
use Rattle.std.specs.List.{filter_map, list_all, list_any}
use Rattle.arj_journal.specs.declared.body.Line.{Line}
use Rattle.arj_journal.specs.declared.header.Header.{Header}
use Rattle.arj_model.specs.Calls.{Top}
use Rattle.arj_model.specs.CausePends.{has_some}
use Rattle.arj_model.specs.Last.{entry_state, excluded, included, increasing, is_among, joins_of, leaves_of, listed}
use Rattle.arj_changes.specs.Kept.{is_ended}
use Rattle.arj_changes.specs.declared.entry.EntryState.{EntryState}
use Rattle.arj_changes.specs.declared.kept.Called.{Called}
use Rattle.arj_changes.specs.declared.kept.Changes.{Changes}
use Rattle.arj_changes.specs.declared.kept.Join.{Join}
use Rattle.arj_changes.specs.declared.kept.Leave.{Leave}

-- the node of an exclusion, where it is this top's of object x
abbrev pub leave_by : ℕ → ℕ → Leave → Option ℕ
leave_by id x leave = if (leave.top == id) && (leave.x == x) then Some leave.node else None

-- there is a number, and it is this one
abbrev pub is_number : Option ℕ → ℕ → Bool
is_number None n = false
is_number (Some m) n = m == n

-- the node of an include, where it is this top's of object x, and survives by this test of numbers
abbrev pub join_by : (ℕ → Bool) → ℕ → ℕ → Join → Option ℕ
join_by ended id x join =
    if is_number join.top id && (join.x == x) then (if list_all ended join.chain then Some join.node else None) else None

-- the stores where some leave and others join
abbrev pub stores_after : List ℕ → List ℕ → List ℕ → List ℕ
stores_after stores leaves joins =
    filter (λ s. not (is_among leaves s)) stores ++ increasing (filter (λ s. not (is_among leaves s)) joins)

-- the nodes that a top excluded, by what is kept
abbrev pub left_by : Changes → ℕ → ℕ → List ℕ
left_by c id x = filter_map (leave_by id x) c.leaves.items

-- the nodes of its surviving includes
abbrev pub joined_by : Changes → ℕ → ℕ → List ℕ
joined_by c id x = filter_map (join_by (is_ended c) id x) c.joins.items

-- it excluded or included a store of object x
abbrev pub is_mover : Changes → ℕ → Called → Bool
is_mover c x top = has_some (left_by c top.id x) || has_some (joined_by c top.id x)

-- the same of a top, by the lines
abbrev pub moves : List Line → ℕ → Top → Bool
moves lines x t = has_some (leaves_of lines t.id x) || has_some (joins_of lines t.id x)

-- A line says that a store of object x is excluded or included.
abbrev pub is_moved : List Line → ℕ → Bool
is_moved lines x = list_any (λ e. e.it.x == x) (excluded lines) || list_any (λ i. i.it.x == x) (included lines)

-- This is the entry of object x behind these lines: the listed stores, its version and its writer.
pub record IsEntry (header : Header) (lines : List Line) (x : ℕ) (e : EntryState) : Type 0 where
  pub stores : e.stores.items ≡ listed header lines x
  pub version : e.version ≡ (entry_state header lines x).version
  pub writer : e.writer ≡ (entry_state header lines x).writer
