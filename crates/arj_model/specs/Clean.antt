-- What stands on the disks at the end of a journal.
use Rattle.std.specs.Prelude.{◌≡◌, ℕ, List, ◌++◌, filter, true, Option, if◌then◌else◌, Some, None, is_some}
use Rattle.std.specs.List.{filter_map}
use Rattle.arj_base.specs.declared.state.ObjectState.{ObjectState}
use Rattle.arj_base.specs.declared.uid.Uid.{Uid}
use Rattle.arj_base.specs.State.{state_bytes}
use Rattle.arj_base.specs.Uid.{object, entry}
use Rattle.arj_disk.specs.declared.slot.Role.TheVariants.{Store, Names}
use Rattle.arj_journal.specs.declared.body.Line.{Line}
use Rattle.arj_journal.specs.declared.header.Header.{Header}
use Rattle.arj_model.specs.Actions.{Act, Placed, top_in, is_committed, ended, recovered}
use Rattle.arj_model.specs.Calls.{committings, surviving}
use Rattle.arj_model.specs.Disks.{Disks, InDoubt, held}
use Rattle.arj_model.specs.Serial.{run, serial_calls, writes_on}
use Rattle.arj_model.specs.Last.{first_values, last_from, writes_of, state_after, entry_from, listed, object_line, is_among}
use Rattle.arj_start.specs.Start.{Marks, none_written, unwritten}

-- Naming stands on node 1. Where no prepared action names an object's entry there, it is the entry that the journal gives.
abbrev pub EntriesAreLast : Header → Marks → List Line → Disks → Type 0
EntriesAreLast header marks lines disks =
    (x : ℕ) → is_some (object_line header x) ≡ true → (InDoubt (disks 1) Names (entry x) → ⊥) →
    held (disks 1) Names (entry x) ≡ Some (state_bytes (entry_from header marks lines x))

-- Every listed store of an object with nothing in doubt, neither its entry nor its state there, holds its last committed
-- state.
abbrev pub ListedStoresHoldLast : Header → Marks → List Line → Disks → Type 0
ListedStoresHoldLast header marks lines disks =
    (x s : ℕ) → is_among (listed header lines x) s ≡ true → (InDoubt (disks 1) Names (entry x) → ⊥) →
    (InDoubt (disks s) Store (object x) → ⊥) → held (disks s) Store (object x) ≡ Some (state_bytes (last_from header marks lines x))

-- Both: what the disks of a run over nodes hold that began with these marks.
pub record CleanFrom (header : Header) (marks : Marks) (lines : List Line) (disks : Disks) : Type 0 where
  pub entries : EntriesAreLast header marks lines disks
  pub stores : ListedStoresHoldLast header marks lines disks

-- what the disks of a run hold that began at a format
abbrev pub Clean : Header → List Line → Disks → Type 0
Clean header lines disks = CleanFrom header none_written lines disks

-- A top whose commit was called, and that neither committed, by its line or by a record that a restart found, nor aborted.
abbrev pub undecided_by : List (Placed ℕ) → List (Placed Uid) → Option Act → Option ℕ
undecided_by ends found None = None
undecided_by ends found (Some top) = if is_committed ends found top then None else Some top.id

-- the numbers of these tops
abbrev pub undecided : List Line → List ℕ
undecided lines = filter_map (λ m. undecided_by (ended lines) (recovered lines) (top_in m.it)) (committings lines)

-- the state of object x if this top had committed, with its surviving calls
abbrev pub next_state : Header → List Line → ℕ → ℕ → ObjectState
next_state header lines id x =
    state_after header.format unwritten x (run (run (first_values header) (serial_calls lines)) (surviving lines id) x)
    (writes_of lines x ++ filter (writes_on x) (surviving lines id))
