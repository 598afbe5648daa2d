-- A journal and, for each object, a state that the lock machine of the object reaches.
use Rattle.std.specs.Prelude.{◌≡◌, ℕ, ◌==◌, not, List, true, Contains}
use Rattle.std.specs.List.{list_any}
use Rattle.arj_base.specs.Rows.{is_on}
use Rattle.arj_class.specs.declared.value.Value.{Value}
use Rattle.arj_journal.specs.declared.body.Line.{Line}
use Rattle.arj_model.specs.Actions.{Act, Placed, acts, path, root_in, uids}
use Rattle.arj_model.specs.Calls.{Said, said}
use Rattle.arj_model.specs.Serial.{Values}
use Rattle.arj_law_runs.specs.journal.Book.{is_top}
use Rattle.arj_law_lock.specs.machine.Actions as machine
use Rattle.arj_law_lock.specs.machine.Actions.{is_action, on, root}
use Rattle.arj_law_lock.specs.machine.Machine.{Run, start}
use Rattle.arj_law_lock.specs.machine.State.{State}
use Rattle.arj_law_lock_view.specs.view.Acts.{Acts}
use Rattle.arj_law_lock_view.specs.view.Copies.{Codes}
use Rattle.arj_law_lock_view.specs.journal.Lines.{IsTiedToLines}
use Rattle.arj_start.specs.Kinds.{is_serial}

-- the action began by this journal
abbrev pub Began : List Line → Act → Type 0
Began lines a = Contains (acts lines) a

-- its path by the whole journal
abbrev pub path_of : List Line → Act → List Act
path_of lines a = path (acts lines) a.label

-- The machine's paths are those of the journal: two actions have two, who stands above whom is the same, and nobody else
-- stands there; tops are tops, a serializing action is its unit, and two roots have two units.
pub record HasPlaces (act : Acts) (lines : List Line) : Type 0 where
  pub one : (a b : Act) → Began lines a → Began lines b → act a.uid ≡ act b.uid → a.uid ≡ b.uid
  pub above : (a b : Act) → Began lines a → Began lines b → on (act a.uid) (act b.uid) ≡ is_on (uids (path_of lines a)) b.uid
  pub filled : (a : Act) (m : machine.Act) → Began lines a → on (act a.uid) m ≡ true → is_action m ≡ true →
      (b : Act) × Began lines b × (m ≡ act b.uid)
  pub tops : (a : Act) → Began lines a → machine.is_top (act a.uid) ≡ is_top a.kind
  pub actions : (a : Act) → Began lines a → is_action (act a.uid) ≡ not (is_serial a.kind)
  pub units : (a b : Act) → Began lines a → Began lines b → root (act a.uid) ≡ root (act b.uid) →
      root_in (path_of lines a) ≡ root_in (path_of lines b)

-- two values have two codes, and so have two tops that wrote them
abbrev pub AreApart : Codes → Type 0
AreApart code = (v w : Value) (a b : machine.Act) → code v a ≡ code w b → (v ≡ w) × (a ≡ b)

-- The machine reaches the state, and it is tied to the journal, in places that the journal's paths have and in codes that tell values
-- apart.
pub record IsTied (values : Values) (lines : List Line) (x : ℕ) (S : State) : Type 0 where
  pub act : Acts
  pub code : Codes
  pub apart : AreApart code
  pub places : HasPlaces act lines
  pub first : ℕ
  pub run : Run (start first) S
  pub tied : IsTiedToLines act code values x lines S

-- so it is for each object of which a call was answered
abbrev pub AreTied : Values → List Line → Type 0
AreTied values lines = (x : ℕ) → list_any (λ (s : Placed Said). s.it.x == x) (said lines) ≡ true → (S : State) × IsTied values lines x S
