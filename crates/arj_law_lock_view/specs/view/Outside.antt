-- What others do keeps a coordinator seen whole, in the machine of one object.
use Rattle.std.specs.Prelude.{◌≡◌, ◌≢◌, ◌⊎◌, ℕ, Some}
use Rattle.arj_protocol.specs.Words.{Uid}
use Rattle.arj_protocol.specs.Coord.{Coord}
use Rattle.arj_protocol.specs.Tree.{Branch, Tree, branch_of}
use Rattle.arj_law_lock.specs.machine.Actions.{In, root}
use Rattle.arj_law_lock.specs.machine.Machine.{Run}
use Rattle.arj_law_lock.specs.machine.State.{Include, State}
use Rattle.arj_law_lock_view.specs.view.Acts.{Acts}
use Rattle.arj_law_lock_view.specs.view.Calling.{IsReached, OnlyCalled}
use Rattle.arj_law_lock_view.specs.view.Copies.{Codes}
use Rattle.arj_law_lock_view.specs.view.Going.{OnlyNaming}
use Rattle.arj_law_lock_view.specs.view.Including.{OnlyIncluded}
use Rattle.arj_law_lock_view.specs.view.Inputs.{OnlyEnded, SeesWhole}
use Rattle.arj_law_lock_view.specs.view.Stops.{IsUnitOf, OnlyStopped}

-- none of the coordinator's actions is of the unit
abbrev pub IsAway : Acts → ℕ → Coord → Type 0
IsAway act unit c = (u : Uid) (b : Branch) → branch_of u c.tree ≡ Some b → root (act u) ≢ unit

-- Actions of a unit end, or are at their commit: a coordinator that has none of it is seen,
abbrev pub EndsElsewhere : Type 0
EndsElsewhere = (act : Acts) (code : Codes) (x unit : ℕ) (c : Coord) (S T : State) → IsReached S → Run S T → IsAway act unit c →
    OnlyEnded unit S T → SeesWhole act code x c S → SeesWhole act code x c T

-- a unit calls the object,
abbrev pub CallsElsewhere : Type 0
CallsElsewhere = (act : Acts) (code : Codes) (x unit : ℕ) (c : Coord) (S T : State) → IsReached S → Run S T → IsAway act unit c →
    OnlyCalled unit S T → SeesWhole act code x c S → SeesWhole act code x c T

-- an include of a unit has its line,
abbrev pub IncludesElsewhere : Type 0
IncludesElsewhere = (act : Acts) (code : Codes) (x unit : ℕ) (c : Coord) (S T : State)
    → IsReached S → Run S T → IsAway act unit c → OnlyIncluded S T →
    ((k : Include) → In k T.includes → In k S.includes ⊎ (root k.act ≡ unit)) → SeesWhole act code x c S → SeesWhole act code x c T

-- naming takes a Bind, a Record, an end, or starts again,
abbrev pub NamingElsewhere : Type 0
NamingElsewhere = (act : Acts) (code : Codes) (x : ℕ) (c : Coord) (S T : State) → IsReached S → Run S T → OnlyNaming S T →
    SeesWhole act code x c S → SeesWhole act code x c T

-- And so it is where another coordinator stops, of which it has no unit.
abbrev pub StopsElsewhere : Type 0
StopsElsewhere = (act : Acts) (code : Codes) (x : ℕ) (t : Tree) (c : Coord) (S T : State)
    → IsReached S → Run S T → ((u : Uid) (b : Branch) → branch_of u c.tree ≡ Some b → IsUnitOf act t (root (act u)) → ⊥) →
    OnlyStopped act t S T → SeesWhole act code x c S → SeesWhole act code x c T
