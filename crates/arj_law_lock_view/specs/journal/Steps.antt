-- A line and what the machine does beside it: the tie of a journal to the machine is kept.
use Rattle.std.specs.Prelude.{⊤, Bool, ◌≡◌, ◌≢◌, ◌⊎◌, ◌≤◌, ◌+◌, ℕ, true, false, length, List, [], ◌∷◌, ◌++◌, Some, Contains}
use Rattle.arj_base.specs.declared.uid.Uid.{Uid}
use Rattle.arj_class.specs.declared.value.Value.{Value}
use Rattle.arj_class.specs.Table.{answer_of, value_after, writes}
use Rattle.arj_journal.specs.declared.body.Body.{Body}
use Rattle.arj_journal.specs.declared.body.Body.TheVariants as body
use Rattle.arj_journal.specs.declared.body.Line.{Line}
use Rattle.arj_text.specs.Label.{name}
use Rattle.arj_text.specs.Words.{answer_text}
use Rattle.arj_text.specs.declared.label.Label.{Label}
use Rattle.arj_model.specs.Actions as model
use Rattle.arj_model.specs.Actions.{Placed, act_in, acts, recovered}
use Rattle.arj_model.specs.Serial.{Values}
use Rattle.arj_law_runs.specs.journal.Laws.{AreDistinct}
use Rattle.arj_protocol.specs.Says.{is_naming_line, is_server_line}
use Rattle.arj_protocol.specs.World.{numbered}
use Rattle.arj_law_parts.specs.moves.Seen.{is_quiet_line}
use Rattle.arj_law_lock.specs.machine.Actions.{Act, is_action, top}
use Rattle.arj_law_lock.specs.machine.State as machine
use Rattle.arj_law_lock.specs.machine.State.{State}
use Rattle.arj_law_lock_view.specs.view.Acts.{Acts, AreOne}
use Rattle.arj_law_lock_view.specs.view.Copies.{Codes}
use Rattle.arj_law_lock_view.specs.view.Ending.{ChangesOne, SameEnd, aborted, called_at, committed_at}
use Rattle.arj_law_lock_view.specs.journal.Lines.{IsTiedToLines}
use Rattle.arj_start.specs.Kinds.{is_serial}

-- The journal's actions are told apart, each has a place of its own in the machine, and it is an action there unless it is serializing.
pub record AreNamed (act : Acts) (lines : List Line) : Type 0 where
  pub distinct : AreDistinct (acts lines)
  pub one : AreOne act
  pub actions : (a : model.Act) → Contains (acts lines) a → is_serial a.kind ≡ false → is_action (act a.uid) ≡ true

-- ---- what stays

-- each action is as far as it was
abbrev pub EndsStay : State → State → Type 0
EndsStay S T = (a : Act) → is_action a ≡ true → SameEnd (S.action a) (T.action a)

-- no call or include came
abbrev pub CallsStay : State → State → Type 0
CallsStay S T = (T.calls ≡ S.calls) × (T.includes ≡ S.includes)

-- ---- a line

-- the label is that of this action of the journal
abbrev pub IsNamed : List Line → Label → model.Act → Type 0
IsNamed lines l a = act_in (acts lines) (name l) ≡ Some a

-- an action stays, is aborted, or is decided, where its node halts
abbrev pub StopsSo : machine.Action → machine.Action → Type 0
StopsSo a b = SameEnd a b ⊎ ((a.stage ≤ 2) × ((b.stage ≡ 4) ⊎ (b.stage ≡ 2)) × (b.place ≡ a.place) × (b.done ≡ a.done))

-- What the machine does beside a line. An action that begins is new to it, and to records that were found. A commit is called, made or
-- found, and an action is aborted, at the line; where a record is found of a top that is committed nothing is done. Where a node halts each
-- action that began there has an end or is decided. An answered call on the object comes at the line, and an include. Beside
-- any other line no action changes in how far it is.
abbrev pub GoesBeside : Acts → Codes → ℕ → List Line → Body → State → State → Type 0
GoesBeside act code x lines (body.Began l k u p) S T = CallsStay S T × EndsStay S T × ((let m = T.action (act u) in m.stage) ≡ 0)
    × ((e : Placed Uid) → Contains (recovered lines) e → e.it ≢ u)
GoesBeside act code x lines (body.Committing l) S T = CallsStay S T × ((a : model.Act) × IsNamed lines l a × (is_action (act a.uid) ≡ true →
    (let m = S.action (act a.uid) in m.stage) ≡ 0) × ChangesOne (act a.uid) (called_at (length lines + 1) (S.action (act a.uid))) S T)
GoesBeside act code x lines (body.Committed l) S T = CallsStay S T × ((a : model.Act) × IsNamed lines l a × (is_action (act a.uid) ≡ true →
    (let m = S.action (act a.uid) in m.stage) ≤ 2) × ChangesOne (act a.uid) (committed_at (length lines + 1) (S.action (act a.uid))) S T)
GoesBeside act code x lines (body.Aborted l c) S T = CallsStay S T × ((a : model.Act) × IsNamed lines l a × (is_action (act a.uid) ≡ true →
    (let m = S.action (act a.uid) in m.stage) ≢ 3) × ChangesOne (act a.uid) (aborted (S.action (act a.uid))) S T)
GoesBeside act code x lines (body.Ended l) S T =
    CallsStay S T × EndsStay S T × ((a : model.Act) × IsNamed lines l a × (is_serial a.kind ≡ true))
GoesBeside act code x lines (body.Recovered n u) S T = CallsStay S T × ((((let m = S.action (act u) in m.stage) ≡ 3) × EndsStay S T)
    ⊎ (((let m = S.action (act u) in m.stage) ≤ 2) × ChangesOne (act u) (committed_at (length lines + 1) (S.action (act u))) S T))
GoesBeside act code x lines (body.Halted n) S T =
    CallsStay S T × ((a : model.Act) → Contains (acts lines) a → is_serial a.kind ≡ false → (let u = a.uid in u.node) ≢ n →
    SameEnd (S.action (act a.uid)) (T.action (act a.uid))) × ((a : model.Act) → Contains (acts lines) a → is_serial a.kind ≡ false →
    (let u = a.uid in u.node) ≡ n → StopsSo (S.action (act a.uid)) (T.action (act a.uid)) × (2 ≤ (let m = T.action (act a.uid) in m.stage)))
GoesBeside act code x lines (body.Ok l y o r) S T = (T.includes ≡ S.includes) × EndsStay S T × ((a : model.Act) × IsNamed lines l a
    × (((y ≢ x) × (T.calls ≡ S.calls)) ⊎ ((y ≡ x) × (v : Value) × (by : Act) × (r ≡ answer_text (answer_of o v)) × (T.calls ≡ record {
      act = act a.uid;
      write = writes o;
      line = length lines + 1;
      sees = code v by;
      gives = code (value_after o v) (top (act a.uid));
    } ∷ S.calls))))
GoesBeside act code x lines (body.Includes l y n) S T =
    (T.calls ≡ S.calls) × EndsStay S T × ((a : model.Act) × IsNamed lines l a × (((y ≢ x) × (T.includes ≡ S.includes))
    ⊎ ((y ≡ x) × (grant : ℕ) × (T.includes ≡ record { act = act a.uid; line = length lines + 1; grant = grant } ∷ S.includes))))
GoesBeside act code x lines b S T = CallsStay S T × EndsStay S T

-- lines that say nothing of actions' beginnings and ends, and of calls
abbrev pub is_plain : Body → Bool
is_plain (body.Began l k u p) = false
is_plain (body.Committing l) = false
is_plain (body.Committed l) = false
is_plain (body.Aborted l c) = false
is_plain (body.Ended l) = false
is_plain (body.Recovered n u) = false
is_plain (body.Halted n) = false
is_plain (body.Ok l y o r) = false
is_plain (body.Includes l y n) = false
is_plain b = true

-- so it is of all lines
abbrev pub ArePlain : List Body → Type 0
ArePlain [] = ⊤
ArePlain (b ∷ bs) = (is_plain b ≡ true) × ArePlain bs

-- The tie is kept by each line and what the machine does beside it.
abbrev pub TiesAreKept : Type 0
TiesAreKept = (act : Acts) (code : Codes) (values : Values) (x event : ℕ) (lines : List Line) (b : Body) (S T : State)
    → AreNamed act lines → T.initial ≡ S.initial → T.now ≤ length lines + 2 → GoesBeside act code x lines b S T
    → IsTiedToLines act code values x lines S → IsTiedToLines act code values x (lines ++ record { event = event; body = b } ∷ []) T

-- It is kept by plain lines, and where the machine goes on while no action changes in how far it is and no call comes.
abbrev pub PlainsAreTied : Type 0
PlainsAreTied = (act : Acts) (code : Codes) (values : Values) (x event : ℕ) (lines : List Line) (bs : List Body) (S T : State)
    → AreNamed act lines → T.initial ≡ S.initial → T.now ≡ S.now → CallsStay S T → EndsStay S T → ArePlain bs
    → IsTiedToLines act code values x lines S → IsTiedToLines act code values x (lines ++ numbered event bs) T

-- Lines of frames, and those of servers and naming, are plain.
abbrev pub PartsSayPlain : Type 0
PartsSayPlain = ((b : Body) → is_quiet_line b ≡ true → is_plain b ≡ true)
    × (((n : ℕ) (b : Body) → is_server_line n b ≡ true → is_plain b ≡ true) × ((b : Body) → is_naming_line b ≡ true → is_plain b ≡ true))
