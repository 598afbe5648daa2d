-- What becomes of the machine's actions in a step of a coordinator: how far they are, and where their lines stand.
use Rattle.std.specs.Prelude.{◌≡◌, ◌⊎◌, ◌+◌, ◌++◌, ℕ, [], ◌∷◌, true, false, Some, Contains, is_some}
use Rattle.arj_protocol.specs.Words.{Uid, is_on}
use Rattle.arj_protocol.specs.Commit.{Aborts, Asks, CommitStep, Decides, Stays}
use Rattle.arj_protocol.specs.Tree.{Branch, Tree, branch_of, open_below}
use Rattle.arj_law_lock.specs.machine.Actions.{Act, is_action, same}
use Rattle.arj_law_lock.specs.machine.State.{Action, State}
use Rattle.arj_law_parts.specs.parts.Copies.{Paths}
use Rattle.arj_law_lock_view.specs.view.Acts.{Acts}

-- an action is as far as it was, and its lines stand where they stood
pub record SameEnd (a b : Action) : Type 0 where
  pub stage : b.stage ≡ a.stage
  pub place : b.place ≡ a.place
  pub done : b.done ≡ a.done

-- so it is, and where it changed otherwise it waits, before or behind
pub record KeptEnd (a b : Action) : Type 0 where
  pub end : SameEnd a b
  pub waited : (b ≡ a) ⊎ ((a.waits ≡ true) ⊎ (b.waits ≡ true))

-- so is each
abbrev pub KeepsEnds : State → State → Type 0
KeepsEnds S T = (a : Act) → KeptEnd (S.action a) (T.action a)

-- no action changed; units may have
abbrev pub KeepsActions : State → State → Type 0
KeepsActions S T = (a : Act) → is_action a ≡ true → T.action a ≡ S.action a

-- Of the machine's actions only this one changed, and to this; units may have.
pub record ChangesOne (m : Act) (new : Action) (S T : State) : Type 0 where
  pub one : is_action m ≡ true → T.action m ≡ new
  pub others : (a : Act) → is_action a ≡ true → same a m ≡ false → T.action a ≡ S.action a

-- the action after the call of its commit, after its commit, and after its abort, with where the line of it stands
abbrev pub called_at : ℕ → Action → Action
called_at p a = record a { stage = 1; place = p }

-- the action after its commit
abbrev pub committed_at : ℕ → Action → Action
committed_at p a = record a { stage = 3; done = p }

-- the action after its abort
abbrev pub aborted : Action → Action
aborted a = record a { stage = 4 }

-- the action with its commit decided, which has no line yet
abbrev pub decided : Action → Action
decided a = record a { stage = 2 }

-- the action after a step of its commit, and where the next line may stand, where the step's line stands at this place
abbrev pub moved_by : CommitStep → ℕ → Action → Action
moved_by (Stays m) p a = a
moved_by (Asks m) p a = a
moved_by (Decides q) p a = committed_at p a
moved_by (Aborts why q) p a = aborted a

-- where the next line may stand after a step of the commit
abbrev pub now_by : CommitStep → ℕ → ℕ → ℕ
now_by (Stays m) p now = now
now_by (Asks m) p now = now
now_by (Decides q) p now = p + 1
now_by (Aborts why q) p now = now

-- it is one of those that an abort of the action takes with it: open, at the action or below it
pub record IsOpenAt (act : Acts) (paths : Paths) (t : Tree) (u : Uid) (a : Act) : Type 0 where
  pub uid : Uid
  pub branch : Branch
  pub there : branch_of uid t ≡ Some branch
  pub unended : is_some branch.ended ≡ false
  pub below : is_on (paths uid) u ≡ true
  pub is : a ≡ act uid
  pub listed : Contains (open_below u t ++ u ∷ []) uid

-- Of the machine's actions only such were aborted, and nothing else of actions changed.
abbrev pub AbortsOnly : Acts → Paths → Tree → Uid → State → State → Type 0
AbortsOnly act paths t u S T = (a : Act) → is_action a ≡ true →
    (T.action a ≡ S.action a) ⊎ ((T.action a ≡ aborted (S.action a)) × IsOpenAt act paths t u a)
