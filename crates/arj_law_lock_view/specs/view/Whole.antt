-- What else stands of a coordinator while its actions end, in the machine: what its roots keep, and what its calls stand on.
use Rattle.std.specs.Prelude.{◌≡◌, ℕ, false, Some, is_some}
use Rattle.arj_protocol.specs.Words.{End, Uid}
use Rattle.arj_protocol.specs.Words.ending
use Rattle.arj_protocol.specs.Asking.{commits_in}
use Rattle.arj_protocol.specs.Commit as commit
use Rattle.arj_protocol.specs.Commit.{Machine}
use Rattle.arj_protocol.specs.Coord.{Coord, Doing, Idle, doing_of}
use Rattle.arj_protocol.specs.Ending.{decided, ended}
use Rattle.arj_protocol.specs.Tree.{Branch, branch_of}
use Rattle.arj_law_lock.specs.machine.State.{State}
use Rattle.arj_law_parts.specs.parts.Copies.{Paths}
use Rattle.arj_law_lock_view.specs.view.Acting.{OnlyActed}
use Rattle.arj_law_lock_view.specs.view.Actions.{IsSteady, SeesActions}
use Rattle.arj_law_lock_view.specs.view.Acts.{Acts}
use Rattle.arj_law_lock_view.specs.view.Copies.{Codes}
use Rattle.arj_law_lock_view.specs.view.Roots.{SeesCoord}

-- an open action of the coordinator
pub record IsOpen (act : Acts) (paths : Paths) (c : Coord) (u : Uid) (b : Branch) (d : Doing) : Type 0 where
  pub steady : IsSteady act paths c
  pub there : branch_of u c.tree ≡ Some b
  pub unended : is_some b.ended ≡ false
  pub works : doing_of u c ≡ Some d

-- An action ends: where its actions are seen after it, the whole coordinator is.
abbrev pub EndsKeepRoots : Type 0
EndsKeepRoots =
    (act : Acts) (code : Codes) (paths : Paths) (x unit : ℕ) (c : Coord) (u : Uid) (b : Branch) (d : Doing) (e : End) (S T : State)
    → IsOpen act paths c u b d → SeesCoord act code x c S → OnlyActed unit S T → SeesActions act x (ended u e c) T.action →
    SeesCoord act code x (ended u e c) T

-- So it is where an action is at its commit.
abbrev pub CommitsKeepRoots : Type 0
CommitsKeepRoots =
    (act : Acts) (code : Codes) (paths : Paths) (x unit : ℕ) (c : Coord) (u : Uid) (b : Branch) (d : Doing) (m : Machine) (S T : State)
    → IsOpen act paths c u b d → SeesCoord act code x c S → OnlyActed unit S T → SeesActions act x (commits_in u m c) T.action →
    SeesCoord act code x (commits_in u m c) T

-- And where only a unit ends.
abbrev pub UnitsKeepRoots : Type 0
UnitsKeepRoots = (act : Acts) (code : Codes) (x unit : ℕ) (c : Coord) (S T : State) → SeesCoord act code x c S → OnlyActed unit S T →
    SeesActions act x c T.action → SeesCoord act code x c T

-- A decision changes the store lists that its root keeps, and what is awaited: nothing at which the machine looks.
abbrev pub DecisionsKeepRoots : Type 0
DecisionsKeepRoots = (act : Acts) (code : Codes) (x : ℕ) (c : Coord) (u : Uid) (d : Doing) (p : commit.Plan) (S : State)
    → doing_of u (ended u ending.Commit c) ≡ Some d → d.now ≡ Idle → SeesCoord act code x (ended u ending.Commit c) S →
    SeesCoord act code x (decided u p c) S
