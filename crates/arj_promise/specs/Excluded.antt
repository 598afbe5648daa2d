-- Excluded in time, by what disks say: whom a new top wrote, and which stores naming took out of an object's list.
use Rattle.std.specs.Prelude.{Contains, IsSomeAnd, List, Some, [], false, if◌then◌else◌, nat_lt, true, ℕ, ◌∷◌, ◌≡◌, ◌⊎◌}
use Rattle.arj_base.specs.State.{StateInForm, state_bytes}
use Rattle.arj_base.specs.Uid.{entry, object}
use Rattle.arj_base.specs.declared.state.ObjectState.{ObjectState}
use Rattle.arj_base.specs.declared.uid.Uid.{Uid}
use Rattle.arj_disk.specs.Says.{new_of}
use Rattle.arj_disk.specs.declared.slot.Role.TheVariants as role
use Rattle.arj_disk.specs.declared.slot.Role.{Role}
use Rattle.arj_journal.specs.declared.body.Line.{Line}
use Rattle.arj_journal.specs.declared.header.Header.{Header}
use Rattle.arj_model.specs.Actions.{acts}
use Rattle.arj_model.specs.Calls.{Call, Top, committed_calls, tops}
use Rattle.arj_model.specs.Disks.{Disks, Reading, held}
use Rattle.arj_model.specs.Last.{is_among, last_from, uid_of_id}
use Rattle.arj_model.specs.Outcome.{is_said}
use Rattle.arj_model.specs.Serial.{writes_on}
use Rattle.arj_start.specs.Start.{Marks, none_written}
use Rattle.arj_protocol.specs.Values.{state_entry}

-- the lines of events before this one
abbrev pub lines_before : ℕ → List Line → List Line
lines_before e [] = []
lines_before e (line ∷ lines) = if nat_lt line.event e then line ∷ lines_before e lines else []

-- the Uid of a top
abbrev pub uid_of : List Line → Top → Uid
uid_of lines t = uid_of_id (acts lines) t.id

-- The top is committed, and isn't by the lines before this event: where that is the last event, its first `committed` or `recovered` line
-- is in it.
abbrev pub IsNew : ℕ → List Line → Top → Type 0
IsNew e lines t = Contains (tops lines) t × (is_said (lines_before e lines) (uid_of lines t) ≡ false)

-- a write on the object by the top survives
abbrev pub Wrote : List Line → ℕ → Top → Type 0
Wrote lines x t = (c : Call) × Contains (committed_calls lines) c × (writes_on x c ≡ true) × (c.top ≡ t.id)

-- The entry of the object that naming's disk holds lists the store.
pub record Lists (read : Reading) (x s : ℕ) : Type 0 where
  pub state : ObjectState
  pub form : StateInForm state
  pub holds : held read role.Names (entry x) ≡ Some (state_bytes state)
  pub has : is_among (let e = state_entry state in e.stores) s ≡ true

-- on the disk the action has prepared this state
abbrev pub HasPrepared : Reading → Role → Uid → ObjectState → Type 0
HasPrepared read r act st = IsSomeAnd (read.pend r act) (λ states. new_of states (let z = st in z.uid) ≡ Some (state_bytes st))

-- On naming's disk an entry of the object without the store is prepared, for the top or for another committed constituent of its
-- serializing action.
pub record DiskTakesOut (lines : List Line) (x : ℕ) (read : Reading) (t : Top) (s : ℕ) : Type 0 where
  pub by_top : Top
  pub committed : Contains (tops lines) by_top
  pub unit : by_top.root ≡ t.root
  pub new : ObjectState
  pub form : StateInForm new
  pub of : new.uid ≡ entry x
  pub prepared : HasPrepared read role.Names (uid_of lines by_top) new
  pub lacks : is_among (let e = state_entry new in e.stores) s ≡ false

-- the store's disk holds the object's last state, which is this one, or has it prepared for the top, or on naming's an entry without the
-- store is prepared
abbrev pub DiskIsInTime : ObjectState → List Line → ℕ → Disks → Top → ℕ → Type 0
DiskIsInTime last lines x disks t s = (held (disks s) role.Store (object x) ≡ Some (state_bytes last))
    ⊎ HasPrepared (disks s) role.Store (uid_of lines t) last
    ⊎ DiskTakesOut lines x (disks 1) t s

-- Excluded in time: so it is at the end of this event, the last one that was run, of each top that is new in it, of each object that it
-- wrote, and of each store that the object's entry on naming's disk lists. The run began with these marks.
abbrev pub DisksAreInTimeFrom : Header → Marks → ℕ → List Line → Disks → Type 0
DisksAreInTimeFrom header marks e lines disks = (t : Top) (x s : ℕ) → IsNew e lines t → Wrote lines x t → Lists (disks 1) x s →
    DiskIsInTime (last_from header marks lines x) lines x disks t s

-- so it is where the run began at a format
abbrev pub DisksAreInTime : Header → ℕ → List Line → Disks → Type 0
DisksAreInTime header e lines disks = DisksAreInTimeFrom header none_written e lines disks
