-- The ends that a coordinator tells are those that its actions have in the machine of one object.
use Rattle.std.specs.Prelude.{◌≡◌, ◌≢◌, List, Some, Contains, length}
use Rattle.arj_protocol.specs.Words.{End, Uid}
use Rattle.arj_protocol.specs.Words.kind
use Rattle.arj_protocol.specs.Coord.{Coord}
use Rattle.arj_protocol.specs.Tree.{Branch, branch_of}
use Rattle.arj_law_lock.specs.machine.State.{State}
use Rattle.arj_law_parts.specs.parts.Coords.{IsGoodCoord}
use Rattle.arj_law_parts.specs.parts.Ends.{AreDecided}
use Rattle.arj_law_lock_view.specs.view.Actions.{SeesActions}
use Rattle.arj_law_lock_view.specs.view.Stops.{AreUnitsOver}
use Rattle.arj_law_lock_view.specs.view.Telling.{AreOneTree, HasEnded, View}

-- A coordinator of these actions is good, each of its actions has its work, they are seen, and the unit of each root that has ended is
-- over.
pub record IsTelling (v : View) (c : Coord) (S : State) : Type 0 where
  pub whole : AreOneTree v.family
  pub good : IsGoodCoord (let g = v.family in g.begun) (let g = v.family in g.paths) c
  pub works : length c.doings ≡ length (let t = c.tree in t.branches)
  pub actions : SeesActions (let g = v.family in g.act) v.x c S.action
  pub units : AreUnitsOver (let g = v.family in g.act) c.tree S

-- An action that isn't serializing has the end in the machine that it has here.
abbrev pub DecidedHaveEnded : Type 0
DecidedHaveEnded = (v : View) (c : Coord) (u : Uid) (e : End) (b : Branch) (S : State)
    → IsTelling v c S → branch_of u c.tree ≡ Some b → b.ended ≡ Some e → b.kind ≢ kind.Serial → HasEnded v S u e

-- no end in the list is that of a serializing action
abbrev pub AreUnserial : Coord → List (Uid × End) → Type 0
AreUnserial c ends = (u : Uid) (e : End) (b : Branch) → Contains {X = Uid × End} ends (u, e) → branch_of u c.tree ≡ Some b →
    b.kind ≢ kind.Serial

-- So do all in such a list that are as they were decided.
abbrev pub ListedHaveEnded : Type 0
ListedHaveEnded = (v : View) (c : Coord) (ends : List (Uid × End)) (S : State)
    → IsTelling v c S → AreDecided ends c.tree → AreUnserial c ends → (u : Uid) (e : End) → Contains {X = Uid × End} ends (u, e) →
    HasEnded v S u e
