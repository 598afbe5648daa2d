-- An action begins at its coordinator: nothing to the machine, where it has done nothing for the action yet.
use Rattle.std.specs.Prelude.{◌≡◌, ◌≢◌, ℕ, true, false, Option}
use Rattle.arj_protocol.specs.Words.{Kind}
use Rattle.arj_protocol.specs.Coord.{Coord, new_coord, no_root, root_at}
use Rattle.arj_protocol.specs.Tree.{Branch, next_uid, path_below, root_of}
use Rattle.arj_law_lock.specs.machine.Actions.{Act, In, Root, is_action, root}
use Rattle.arj_law_lock.specs.machine.State as machine
use Rattle.arj_law_lock.specs.machine.State.{Call, Include, State}
use Rattle.arj_law_parts.specs.parts.Copies.{Paths}
use Rattle.arj_law_parts.specs.parts.Trees.{MayStand}
use Rattle.arj_law_lock_view.specs.view.Acts.{Acts}
use Rattle.arj_law_lock_view.specs.view.Actions.{IsIdle, IsSteady}
use Rattle.arj_law_lock_view.specs.view.Copies.{Codes}
use Rattle.arj_law_lock_view.specs.view.Roots.{SeesCoord}

-- the machine did nothing for the action
pub record IsUntouched (a : machine.Action) : Type 0 where
  pub stage : a.stage ≡ 0
  pub request : a.request ≡ 0
  pub waits : a.waits ≡ false
  pub doomed : a.doomed ≡ false

-- nor for the unit: it is open, none of its actions did anything, it keeps nothing, and nobody called or included for it
pub record IsNewUnit (unit : ℕ) (S : State) : Type 0 where
  pub stage : (let a = S.action (Root unit) in a.stage) ≡ 0
  pub waits : (let a = S.action (Root unit) in a.waits) ≡ false
  pub idle : (a : Act) → root a ≡ unit → is_action a ≡ true → IsIdle (S.action a)
  pub kept : S.kept unit ≡ 0
  pub calls : (d : Call) → In d S.calls → root d.act ≢ unit
  pub includes : (k : Include) → In k S.includes → root k.act ≢ unit

-- The next action may stand there, the machine did nothing for it, and for a root nothing for its unit.
pub record IsBeginning (act : Acts) (paths : Paths) (k : Kind) (above : Option Branch) (c : Coord) (S : State) : Type 0 where
  pub steady : IsSteady act paths c
  pub stands : MayStand paths k c.tree (path_below k above (next_uid c.tree))
  pub untouched : IsUntouched (S.action (act (next_uid c.tree)))
  pub unit : root_of (path_below k above (next_uid c.tree)) ≡ next_uid c.tree →
      IsNewUnit (root (act (next_uid c.tree))) S × (root_at (next_uid c.tree) c ≡ no_root)

-- A coordinator that has just started is seen in every state.
abbrev pub NewCoordsAreSeen : Type 0
NewCoordsAreSeen = (act : Acts) (code : Codes) (x node inc : ℕ) (S : State) → SeesCoord act code x (new_coord node inc) S
