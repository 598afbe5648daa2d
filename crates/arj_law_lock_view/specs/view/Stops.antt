-- What ends many actions at once, in the machine: an abort of an action with all that is open below it, a stop of the node, and what
-- a restart finds.
use Rattle.std.specs.Prelude.{⊤, ◌≡◌, ◌≢◌, ◌⊎◌, ◌≤◌, ◌+◌, ℕ, List, true, false, Option, Some, None, is_some}
use Rattle.arj_protocol.specs.Words.{Uid, is_on}
use Rattle.arj_protocol.specs.Words.kind
use Rattle.arj_protocol.specs.Commit.{Machine}
use Rattle.arj_protocol.specs.Coord.{Committing, Coord, Doing, doing_of, new_coord}
use Rattle.arj_protocol.specs.Effect.{Intent}
use Rattle.arj_protocol.specs.Ending.{abort_action}
use Rattle.arj_protocol.specs.Tree.{Branch, Tree, branch_of, root_of}
use Rattle.arj_law_lock.specs.machine.Actions.{Act, Root, is_action, is_top, root}
use Rattle.arj_law_lock.specs.machine.State as machine
use Rattle.arj_law_lock.specs.machine.State.{State}
use Rattle.arj_law_parts.specs.parts.Copies.{Paths}
use Rattle.arj_law_lock_view.specs.view.Acting.{IsBacked, OnlyActed}
use Rattle.arj_law_lock_view.specs.view.Actions.{IsHere, IsSteady}
use Rattle.arj_law_lock_view.specs.view.Acts.{Acts}
use Rattle.arj_law_lock_view.specs.view.Copies.{Codes}
use Rattle.arj_law_lock_view.specs.view.Ending.{AbortsOnly, ChangesOne, aborted, committed_at, decided}
use Rattle.arj_law_lock_view.specs.view.Going.{Goes}
use Rattle.arj_law_lock_view.specs.view.Roots.{SeesCoord}

-- the unit of each root that has ended is over
abbrev pub AreUnitsOver : Acts → Tree → State → Type 0
AreUnitsOver act t S = (u : Uid) (b : Branch) → branch_of u t ≡ Some b → root_of b.path ≡ u → is_some b.ended ≡ true →
    (let a = S.action (Root (root (act u))) in a.stage) ≡ 3

-- ---- an action with all that is open below it

-- whatever was open at the action and below it is aborted
abbrev pub AreAborted : Acts → Paths → Tree → Uid → State → Type 0
AreAborted act paths t u T = (w : Uid) (b : Branch) → branch_of w t ≡ Some b → is_some b.ended ≡ false → is_on (paths w) u ≡ true →
    is_action (act w) ≡ true → (let a = T.action (act w) in a.stage) ≡ 4

-- An open action is aborted with all that is open below it, whatever these wait for; a root's unit is over then.
abbrev pub AbortionsGoDown : Type 0
AbortionsGoDown =
    (act : Acts) (code : Codes) (paths : Paths) (x : ℕ) (c : Coord) (u : Uid) (b : Branch) (intents : List (Uid × Intent)) (S : State)
    → IsSteady act paths c → branch_of u c.tree ≡ Some b → is_some b.ended ≡ false → AreUnitsOver act c.tree S → SeesCoord act code x c S
    → Goes S (λ T. SeesCoord act code x (let e = abort_action u intents c in e.part) T × OnlyActed (root (act u)) S T × (T.now ≡ S.now)
    × AreAborted act paths c.tree u T × AreUnitsOver act (let e = abort_action u intents c in let k = e.part in k.tree) T
    × AbortsOnly act paths c.tree u S T)

-- ---- a stop

-- A top at its commit, behind which votes and naming stand: it is decided as soon as its record is on the disk.
pub record IsDecided (act : Acts) (c : Coord) (u : Uid) (S : State) : Type 0 where
  pub branch : Branch
  pub work : Doing
  pub plan : Machine
  pub there : branch_of u c.tree ≡ Some branch
  pub unended : is_some branch.ended ≡ false
  pub unserial : branch.kind ≢ kind.Serial
  pub unnested : branch.kind ≢ kind.Nested
  pub works : doing_of u c ≡ Some work
  pub at_commit : work.now ≡ Committing plan
  pub backed : IsBacked (act u) S

-- the same of the top of whose decision the stop left the record alone, where there is one
abbrev pub IfDecided : Acts → Coord → Option Uid → State → Type 0
IfDecided act c None S = ⊤
IfDecided act c (Some u) S = IsDecided act c u S

-- the action is committed or aborted
abbrev pub HasEnded : machine.Action → Type 0
HasEnded a = (a.stage ≡ 3) ⊎ (a.stage ≡ 4)

-- What a coordinator leaves in the machine when its node stops. Each of its actions has ended and each unit is over, but for one top
-- that is decided and has no line yet, and its unit.
pub record HasStopped (act : Acts) (t : Tree) (last : Option Uid) (S : State) : Type 0 where
  pub top : (u : Uid) → last ≡ Some u →
      (b : Branch) × (branch_of u t ≡ Some b) × (is_top (act u) ≡ true) × ((let a = S.action (act u) in a.stage) ≡ 2)
  pub each : (u : Uid) (b : Branch) → branch_of u t ≡ Some b → is_action (act u) ≡ true → (last ≡ Some u) ⊎ HasEnded (S.action (act u))
  pub units : (u : Uid) (b : Branch) → branch_of u t ≡ Some b → ((w : Uid) × (last ≡ Some w) × (root (act w) ≡ root (act u))
      × ((let a = S.action (Root (root (act u))) in a.stage) ≡ 0)) ⊎ ((let a = S.action (Root (root (act u))) in a.stage) ≡ 3)
  pub others : (u : Uid) (b : Branch) (a : Act) → branch_of u t ≡ Some b → root a ≡ root (act u) → is_action a ≡ true →
      IsHere act t a ⊎ ((let k = S.action a in k.stage) ≡ 0)

-- the unit is of one of the tree's actions
abbrev pub IsUnitOf : Acts → Tree → ℕ → Type 0
IsUnitOf act t unit = (u : Uid) × (b : Branch) × (branch_of u t ≡ Some b) × (unit ≡ root (act u))

-- Only actions of the tree's units changed, and none that had ended: an action of the tree was aborted, or is decided, and units are over.
pub record OnlyStopped (act : Acts) (t : Tree) (S T : State) : Type 0 where
  pub rest : T ≡ record S { action = T.action }
  pub others : (a : Act) → (IsUnitOf act t (root a) → ⊥) → T.action a ≡ S.action a
  pub ended : (a : Act) → 3 ≤ (let k = S.action a in k.stage) → T.action a ≡ S.action a
  pub ends : (a : Act) → is_action a ≡ true →
      (T.action a ≡ S.action a) ⊎ (IsHere act t a × ((T.action a ≡ aborted (S.action a)) ⊎ (T.action a ≡ decided (S.action a))))

-- A node stops: the coordinator's open actions are aborted, but for a top whose decision is on the disk, which is decided.
abbrev pub StopsAreSeen : Type 0
StopsAreSeen = (act : Acts) (code : Codes) (paths : Paths) (x : ℕ) (c : Coord) (last : Option Uid) (S : State)
    → IsSteady act paths c → IfDecided act c last S → AreUnitsOver act c.tree S → SeesCoord act code x c S →
    Goes S (λ T. HasStopped act c.tree last T × OnlyStopped act c.tree S T)

-- It stays so while nobody else changes its units.
abbrev pub StopsStay : Type 0
StopsStay = (act : Acts) (t : Tree) (last : Option Uid) (S T : State) → ((a : Act) → IsUnitOf act t (root a) → T.action a ≡ S.action a) →
    HasStopped act t last S → HasStopped act t last T

-- ---- a restart

-- The restart finds the record of the top that was decided and had no line: it is committed by the line of its recovery, and all of that
-- coordinator has ended.
abbrev pub RecordsAreFound : Type 0
RecordsAreFound = (act : Acts) (t : Tree) (u : Uid) (p : ℕ) (S : State) → HasStopped act t (Some u) S → S.now ≤ p
    → Goes S (λ T. HasStopped act t None T × OnlyActed (root (act u)) S T × (T.now ≡ p + 1) × ((let a = T.action (act u) in a.stage) ≡ 3)
    × ChangesOne (act u) (committed_at p (S.action (act u))) S T)

-- The new coordinator, with the records that it found, is seen in every state.
abbrev pub RestartedCoordsAreSeen : Type 0
RestartedCoordsAreSeen = (act : Acts) (code : Codes) (x node inc : ℕ) (records : List (Uid × Intent)) (S : State)
    → let c = record (new_coord node inc) { telling = records } in SeesCoord act code x c S × AreUnitsOver act c.tree S
