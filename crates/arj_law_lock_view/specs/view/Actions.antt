-- The actions of a coordinator, as the lock machine of one object has them.
use Rattle.std.specs.Prelude.{List, ◌≡◌, ◌≢◌, ◌⊎◌, ◌≤◌, ◌==◌, ◌&&◌, ℕ, Bool, true, false, length, Option, Some, None, is_some}
use Rattle.arj_protocol.specs.Words.{Uid, End, Kind, is_on, first_uid}
use Rattle.arj_protocol.specs.Words.ending
use Rattle.arj_protocol.specs.Words.kind
use Rattle.arj_protocol.specs.Call.{is_invoke}
use Rattle.arj_protocol.specs.Coord.{Coord, Doing, Now, Idle, Calling, Committing, doing_of}
use Rattle.arj_protocol.specs.Step.{is_waiting_now}
use Rattle.arj_protocol.specs.Tree.{Branch, Tree, branch_of, has_end, root_of}
use Rattle.arj_law_lock.specs.machine.Actions.{Act, Root, is_action, is_top, on, root}
use Rattle.arj_law_lock.specs.machine.State as machine
use Rattle.arj_law_parts.specs.parts.Actions.{Action}
use Rattle.arj_law_parts.specs.parts.Coords.{IsGoodCoord}
use Rattle.arj_law_parts.specs.parts.Copies.{IsTree, Paths}
use Rattle.arj_law_lock_view.specs.view.Acts.{Acts, AreOne}

-- The machine's paths of actions are the protocol's: two actions have two paths, who stands above whom is the same, and nobody
-- else stands there; and each root has a unit of its own.
pub record AreAlike (act : Acts) (paths : Paths) : Type 0 where
  pub one : AreOne act
  pub above : (u w : Uid) → on (act u) (act w) ≡ is_on (paths u) w
  pub filled : (u : Uid) (a : Act) → on (act u) a ≡ true → is_action a ≡ true → (w : Uid) × (a ≡ act w)
  pub units : (u w : Uid) → root (act u) ≡ root (act w) → first_uid (paths u) ≡ first_uid (paths w)

-- A serializing action is its unit, each other root and each constituent is a top, and a nested action is none.
abbrev pub IsPlaced : Act → Kind → Type 0
IsPlaced a kind.Serial = is_action a ≡ false
IsPlaced a kind.Nested = (is_action a ≡ true) × (is_top a ≡ false)
IsPlaced a _ = is_top a ≡ true

-- ---- one action

-- how far an action is in the machine: open, at its commit, committed, aborted
abbrev pub stage_of : Option End → Now → ℕ
stage_of (Some ending.Commit) now = 3
stage_of (Some ending.Abort) now = 4
stage_of None (Committing m) = 1
stage_of None (Calling s) = 0
stage_of None Idle = 0

-- the action waits for the answer to an operation on the object
abbrev pub invokes : ℕ → Now → Bool
invokes x (Calling s) = (s.x == x) && is_invoke s.at
invokes x (Committing m) = false
invokes x Idle = false

-- An action, as its branch and its work have it. One that was aborted may wait in the machine for ever.
pub record SeesAction (x : ℕ) (b : Branch) (d : Doing) (a : machine.Action) : Type 0 where
  pub stage : a.stage ≡ stage_of b.ended d.now
  pub request : a.request ≤ d.req
  pub waits : has_end ending.Abort b.ended ≡ false → a.waits ≡ invokes x d.now
  pub last : invokes x d.now ≡ true → a.request ≡ d.req
  pub doomed : b.doomed ≡ false → a.doomed ≡ false

-- ---- all actions

-- nothing has happened to the action
pub record IsIdle (a : machine.Action) : Type 0 where
  pub stage : a.stage ≡ 0
  pub waits : a.waits ≡ false

-- it is one of this coordinator's
abbrev pub IsHere : Acts → Tree → Act → Type 0
IsHere act t a = (u : Uid) × (b : Branch) × (branch_of u t ≡ Some b) × (a ≡ act u)

-- The actions of a coordinator: each is seen, the unit of an open root is open, and of their units nobody else does anything.
pub record SeesActions (act : Acts) (x : ℕ) (c : Coord) (f : Act → machine.Action) : Type 0 where
  pub each : (u : Uid) (b : Branch) (d : Doing) → branch_of u c.tree ≡ Some b → doing_of u c ≡ Some d → is_action (act u) ≡ true →
      SeesAction x b d (f (act u))
  pub opened : (u : Uid) (b r : Branch) → branch_of u c.tree ≡ Some b → branch_of (root_of b.path) c.tree ≡ Some r →
      is_some r.ended ≡ false → (let a = f (Root (root (act u))) in a.stage) ≡ 0
  pub quiet : (u : Uid) (b : Branch) → branch_of u c.tree ≡ Some b → (let a = f (Root (root (act u))) in a.waits) ≡ false
  pub others : (u : Uid) (b : Branch) (a : Act) → branch_of u c.tree ≡ Some b → root a ≡ root (act u) → is_action a ≡ true →
      IsHere act c.tree a ⊎ IsIdle (f a)

-- ---- what is known of a coordinator alone

-- It is good, for the actions that were begun; each of its actions has its work and its place in the machine.
pub record IsSteady (act : Acts) (paths : Paths) (c : Coord) : Type 0 where
  pub actions : List Action
  pub good : IsGoodCoord actions paths c
  pub alike : AreAlike act paths
  pub whole : IsTree paths
  pub works : length c.doings ≡ length (let t = c.tree in t.branches)
  pub placed : (u : Uid) (b : Branch) → branch_of u c.tree ≡ Some b → IsPlaced (act u) b.kind

-- no other action that waits stands above this one, or below it
abbrev pub IsLone : Paths → Uid → Coord → Type 0
IsLone paths u c = (w : Uid) (e : Doing) → doing_of w c ≡ Some e → is_waiting_now e.now ≡ true → w ≢ u →
    (is_on (paths u) w ≡ false) × (is_on (paths w) u ≡ false)
