-- Runs that the machine has, by what they show at the end.
use Rattle.std.proofs.Common.{◌≡◌, ℕ, List, [], ◌∷◌, true, false}
use Rattle.arj_law_lock.specs.machine.Actions.{Act, Root, Sub}
use Rattle.arj_law_lock.specs.machine.State.{Call, State}
use Rattle.arj_law_lock.specs.machine.Machine.{start, Run}

-- the actions are at the stage
abbrev pub AtStage : State → ℕ → List Act → Type 0
AtStage s n [] = Unit {0}
AtStage s n (a ∷ more) = ((s.action a).stage ≡ n) × AtStage s n more

-- There is a run from the first value after which these are the calls (newest first) and these tops are committed, those
-- aborted.
pub record Happens (first : ℕ) (calls : List Call) (committed aborted : List Act) : Type 0 where
  pub state : State
  pub run : Run (start first) state
  pub calls_are : state.calls ≡ calls
  pub commits : AtStage state 3 committed
  pub aborts : AtStage state 4 aborted

-- Tops of plain units, two constituents of a serializing action, and a nested action.
abbrev pub first_top : Act
first_top = Sub (Root 1) 0

-- the top of another plain unit
abbrev pub second_top : Act
second_top = Sub (Root 2) 0

-- the first constituent of a serializing action
abbrev pub first_constituent : Act
first_constituent = Sub (Root 3) 0

-- its second constituent
abbrev pub second_constituent : Act
second_constituent = Sub (Root 3) 1

-- an action nested in the first top
abbrev pub nested : Act
nested = Sub first_top 0

-- a call that wrote
abbrev pub written : Act → ℕ → ℕ → ℕ → Call
written a line sees gives = record { act = a; write = true; line = line; sees = sees; gives = gives }

-- a call that read
abbrev pub read : Act → ℕ → ℕ → Call
read a line sees = record { act = a; write = false; line = line; sees = sees; gives = sees }

-- A server stops and loses the first top's lock and write; the second one binds anew, writes and commits.
abbrev pub LostLock : Type 0
LostLock = Happens 9 (written second_top 2 9 7 ∷ written first_top 1 9 5 ∷ []) (second_top ∷ []) (first_top ∷ [])

-- The first top commits; naming stops and forgets the binding; the second one reads the value at another node.
abbrev pub Rebinding : Type 0
Rebinding = Happens 9 (read second_top 4 5 ∷ written first_top 1 9 5 ∷ []) (first_top ∷ second_top ∷ []) []

-- Two constituents write one after the other, the second by the binding that its serializing action retains; another top
-- is refused in between, and reads both writes afterwards.
abbrev pub Serializing : Type 0
Serializing = Happens 9 (read second_top 7 6 ∷ written second_constituent 4 5 6 ∷ written first_constituent 1 9 5 ∷ [])
    (first_constituent ∷ second_constituent ∷ second_top ∷ []) []

-- A nested call is given up and its old request applied late, over the top's write; an old state is activated late at a
-- server that stopped. The second top reads what the first one committed.
abbrev pub OldFrames : Type 0
OldFrames = Happens 9 (read second_top 4 5 ∷ written first_top 1 9 5 ∷ []) (first_top ∷ second_top ∷ []) (nested ∷ [])
