-- Lines of nodes that stop and start again, and of actions that begin: the journal with each is tied to the machine.
use Rattle.std.specs.Prelude.{◌≡◌, ◌≢◌, ◌⊎◌, ◌++◌, ℕ, false, List, [], ◌∷◌, Option, Some, Contains}
use Rattle.arj_journal.specs.declared.body.Body.TheVariants as body
use Rattle.arj_journal.specs.declared.body.Line.{Line}
use Rattle.arj_model.specs.Actions as model
use Rattle.arj_model.specs.Actions.{Placed, acts, recovered}
use Rattle.arj_model.specs.Serial.{Values}
use Rattle.arj_protocol.specs.Words.{Kind, Label, Uid}
use Rattle.arj_protocol.specs.Tree.{Branch, Tree, branch_of}
use Rattle.arj_law_lock.specs.machine.State.{State}
use Rattle.arj_law_lock_view.specs.view.Acts.{Acts}
use Rattle.arj_law_lock_view.specs.view.Begins.{IsUntouched}
use Rattle.arj_law_lock_view.specs.view.Copies.{Codes}
use Rattle.arj_law_lock_view.specs.view.Stops.{HasEnded, HasStopped, OnlyStopped}
use Rattle.arj_law_lock_view.specs.journal.Lines.{IsTiedToLines}
use Rattle.arj_law_lock_view.specs.journal.Steps.{AreNamed}
use Rattle.arj_start.specs.Kinds.{is_serial}

-- Each action of the journal that was begun at the node, and isn't serializing, is one of its last coordinator's, or has ended.
abbrev pub AreHereOrGone : Acts → ℕ → Tree → List Line → State → Type 0
AreHereOrGone act n t lines S = (a : model.Act) → Contains (acts lines) a → is_serial a.kind ≡ false → (let u = a.uid in u.node) ≡ n →
    ((b : Branch) × (branch_of a.uid t ≡ Some b)) ⊎ HasEnded (S.action (act a.uid))

-- A node halts, and the machine has ended its coordinator's actions, but for a top that is decided; or it was down, and nothing changed.
abbrev pub HaltsAreTied : Type 0
HaltsAreTied =
    (act : Acts) (code : Codes) (values : Values) (x event n : ℕ) (lines : List Line) (t : Tree) (last : Option Uid) (S T : State)
    → AreNamed act lines → t.node ≡ n → AreHereOrGone act n t lines S → HasStopped act t last T → OnlyStopped act t S T
    → IsTiedToLines act code values x lines S →
    IsTiedToLines act code values x (lines ++ record { event = event; body = body.Halted n } ∷ []) T

-- The line of the record of a top that is committed is nothing to the machine.
abbrev pub OldRecordsAreTied : Type 0
OldRecordsAreTied = (act : Acts) (code : Codes) (values : Values) (x event n : ℕ) (lines : List Line) (u : Uid) (S : State)
    → AreNamed act lines → (let a = S.action (act u) in a.stage) ≡ 3
    → IsTiedToLines act code values x lines S →
    IsTiedToLines act code values x (lines ++ record { event = event; body = body.Recovered n u } ∷ []) S

-- Nor is that of an action that begins, for which the machine did nothing, and of which no record was found.
abbrev pub BeginsAreTied : Type 0
BeginsAreTied = (act : Acts) (code : Codes) (values : Values) (x event : ℕ) (lines : List Line) (l : Label) (k : Kind) (u : Uid)
    (parent : Option Label) (S : State)
    → AreNamed act lines → IsUntouched (S.action (act u)) → ((e : Placed Uid) → Contains (recovered lines) e → e.it ≢ u)
    → IsTiedToLines act code values x lines S →
    IsTiedToLines act code values x (lines ++ record { event = event; body = body.Began l k u parent } ∷ []) S
