-- A coordinator: its tree, and who waits in it.
use Rattle.std.specs.Prelude.{◌≡◌, ◌≢◌, List, [], true, false, Some, Contains, is_some, ⊤}
use Rattle.arj_protocol.specs.Words.{Uid, Path}
use Rattle.arj_protocol.specs.Words.kind
use Rattle.arj_protocol.specs.Commit.{Machine, Plan, plan_of}
use Rattle.arj_protocol.specs.Coord.{Coord, Doing, Now, Idle, Calling, Committing, doing_of}
use Rattle.arj_protocol.specs.Tree.{Tree, Branch, branch_of, has_open_child}
use Rattle.arj_law_parts.specs.parts.Actions.{Action, action_of}
use Rattle.arj_law_parts.specs.parts.Copies.{Paths}
use Rattle.arj_law_parts.specs.parts.Servers.{has_end_of}
use Rattle.arj_law_parts.specs.parts.Trees.{HasAllIn, AreWhole, IsGoodTree, AreAtHome}

-- The action asks by this path: it is open, and isn't a serializing action.
pub record IsAsking (t : Tree) (u : Uid) (p : Path) : Type 0 where
  pub branch : Branch
  pub found : branch_of u t ≡ Some branch
  pub path : branch.path ≡ p
  pub unserial : branch.kind ≢ kind.Serial
  pub opened : is_some branch.ended ≡ false

-- The action commits by this plan: it is a top in which nothing is open, and the plan's ends have those of all below it.
pub record IsVoting (t : Tree) (u : Uid) (p : Plan) : Type 0 where
  pub asking : IsAsking t u p.path
  pub top : (b : Branch) → branch_of u t ≡ Some b → b.kind ≢ kind.Nested
  pub childless : has_open_child u t ≡ false
  pub below : HasAllIn t u p.ends
  pub over : (w : Uid) → has_end_of w p.ends ≡ true → (b : Branch) × (branch_of w t ≡ Some b) × (is_some b.ended ≡ true)
  pub whole : AreWhole t [] p.ends

-- what an action waits for fits the tree
abbrev pub IsBusy : Tree → Uid → Now → Type 0
IsBusy t u Idle = ⊤
IsBusy t u (Calling s) = IsAsking t u s.path
IsBusy t u (Committing m) = IsVoting t u (plan_of m)

-- so it is of each action at work
abbrev pub AreBusy : Coord → Type 0
AreBusy c = (u : Uid) (d : Doing) → doing_of u c ≡ Some d → IsBusy c.tree u d.now

-- What holds of a coordinator, with all actions that were begun so far: its tree is good, it has its own actions, and what
-- waits fits.
pub record IsGoodCoord (acts : List Action) (paths : Paths) (c : Coord) : Type 0 where
  pub tree : IsGoodTree paths c.tree
  pub home : AreAtHome acts c.tree
  pub known : (u : Uid) (b : Branch) → branch_of u c.tree ≡ Some b → Contains acts (action_of b)
  pub busy : AreBusy c

-- the action has ended here
abbrev pub IsOver : Uid → Tree → Type 0
IsOver u t = (b : Branch) × (branch_of u t ≡ Some b) × (is_some b.ended ≡ true)

-- the action is at its commit here
abbrev pub IsCommitting : Uid → Coord → Type 0
IsCommitting u c = (d : Doing) × (m : Machine) × (doing_of u c ≡ Some d) × (d.now ≡ Committing m)
