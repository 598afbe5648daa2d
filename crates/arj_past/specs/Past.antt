-- States that objects had.
use Rattle.std.specs.Prelude.{◌≡◌, ◌≤◌, ℕ, List, Bool, true, Some, is_some, not, filter}
use Rattle.std.specs.List.{list_any}
use Rattle.arj_base.specs.State.{state_bytes}
use Rattle.arj_base.specs.Uid.{entry, object, uid_eq}
use Rattle.arj_base.specs.declared.state.ObjectState.{ObjectState}
use Rattle.arj_base.specs.declared.uid.Uid.{Uid}
use Rattle.arj_disk.specs.declared.slot.Role.{Role}
use Rattle.arj_disk.specs.declared.slot.Role.TheVariants.{Names, Store}
use Rattle.arj_journal.specs.declared.body.Line.{Line}
use Rattle.arj_journal.specs.declared.header.Header.{Header}
use Rattle.arj_journal.specs.declared.header.ObjectLine.{ObjectLine}
use Rattle.arj_model.specs.Calls.{Call, tops}
use Rattle.arj_model.specs.Disks.{Disks, Reading, held}
use Rattle.arj_model.specs.Last.{first_values, object_line, state_after}
use Rattle.arj_model.specs.Serial.{lex, run, serial_calls, serial_key, writes_on}
use Rattle.arj_start.specs.Start.{unwritten}

-- the top of a call doesn't stand behind this place in serial order; before all tops stands []
abbrev pub is_up_to : List Line → List ℕ → Call → Bool
is_up_to lines place c = not (lex place (serial_key (tops lines) c.top))

-- the surviving calls of the committed tops up to a place in serial order, of those tops alone
abbrev pub calls_to : List Line → List ℕ → List Call
calls_to lines place = filter (is_up_to lines place) (serial_calls lines)

-- the last state of object x behind those tops
abbrev pub state_to : Header → List Line → List ℕ → ℕ → ObjectState
state_to header lines place x =
    state_after header.format unwritten x (run (first_values header) (calls_to lines place) x) (filter (writes_on x) (calls_to lines place))

-- the packed state is the last one of object x behind some number of the committed tops in serial order, none of them included
abbrev pub IsPast : Header → List Line → ℕ → List ℕ → Type 0
IsPast header lines x bytes = (place : List ℕ) × (bytes ≡ state_bytes (state_to header lines place x))

-- the Uid under which a disk has object x in a role: the object's, or its entry's
abbrev pub uid_in : Role → ℕ → Uid
uid_in Store x = object x
uid_in Names x = entry x

-- it is that of one of these objects
abbrev pub has_name : List ObjectLine → Role → Uid → Bool
has_name objects role u = list_any (λ o. uid_eq u (uid_in role o.x)) objects

-- all that a disk holds in a role is of these objects
abbrev pub IsOfHeader : List ObjectLine → Reading → Role → Type 0
IsOfHeader objects read role = (u : Uid) → is_some (held read role u) ≡ true → has_name objects role u ≡ true

-- what a disk holds of object x is a state that it had
abbrev pub HoldsPast : Header → List Line → Reading → ℕ → Type 0
HoldsPast header lines read x = (bytes : List ℕ) → held read Store (object x) ≡ Some bytes → IsPast header lines x bytes

-- the object states that nodes hold are of objects of the header
abbrev pub AreKnown : Header → Disks → Type 0
AreKnown header disks = (n : ℕ) → 1 ≤ n → n ≤ header.nodes → IsOfHeader header.objects (disks n) Store

-- what nodes hold of object x are states that it had
abbrev pub HoldItsPast : Header → List Line → Disks → ℕ → Type 0
HoldItsPast header lines disks x = (n : ℕ) → 1 ≤ n → n ≤ header.nodes → HoldsPast header lines (disks n) x

-- Each object state that a node holds is of an object of the header, and one that the object had.
pub record HoldPast (header : Header) (lines : List Line) (disks : Disks) : Type 0 where
  pub known : AreKnown header disks
  pub past : (x : ℕ) → is_some (object_line header x) ≡ true → HoldItsPast header lines disks x
