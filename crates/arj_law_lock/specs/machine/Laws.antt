-- What every run of the lock machine keeps.
use Rattle.std.proofs.Common.{◌≡◌, ◌≢◌, ◌≤◌, ◌<◌, ◌⊎◌, ℕ, List, [], ◌∷◌, true, false}
use Rattle.arj_law_lock.specs.machine.Actions.{Act, Root, on, root, top, is_top, In}
use Rattle.arj_law_lock.specs.machine.Rows.{mode}
use Rattle.arj_law_lock.specs.machine.Machine.{Guard, Run, next}
use Rattle.arj_law_lock.specs.machine.State.{Alive, Ballot, Call, Include, State, Passed, Covered}
use Rattle.arj_law_lock.specs.machine.Steps.{Survives, Newest, IsLast, VoteTop, held_value}

-- A top with its committed line.
abbrev pub IsCommitted : State → Act → Type 0
IsCommitted s m = (is_top m ≡ true) × ((s.action m).stage ≡ 3)

-- Two surviving calls of the object, the first one's line earlier, at least one of them a write.
pub record Conflicting (s : State) (c d : Call) : Type 0 where
  pub first : In c s.calls
  pub second : In d s.calls
  pub line : c.line < d.line
  pub write : (c.write ≡ true) ⊎ (d.write ≡ true)
  pub first_survives : Survives s c.act
  pub second_survives : Survives s d.act

-- Their ok lines stand in the serial order: the commit of each committed top of the earlier call's unit was called before
-- the later call's line; in one unit the earlier call's own; and if the earlier call writes, its top had its committed line.
pub record IsInOrder (s : State) : Type 0 where
  pub units : (c d : Call) (m : Act) → Conflicting s c d → root c.act ≢ root d.act → IsCommitted s m → root m ≡ root c.act →
      (s.action m).place < d.line
  pub tops : (c d : Call) → Conflicting s c d → root c.act ≡ root d.act → top c.act ≢ top d.act → (s.action (top c.act)).place < d.line
  pub writes : (c d : Call) → Conflicting s c d → c.write ≡ true → top c.act ≢ top d.act → (s.action (top c.act)).done < d.line

-- Within one unit each action of the earlier call's path that isn't on the later one's was committed before the later line.
abbrev pub IsNested : State → Type 0
IsNested s = (c d : Call) → Conflicting s c d → root c.act ≡ root d.act → Passed s c.act d.act d.line

-- Two surviving calls of different units, of which the later one's line stands before the commit call of a committed top
-- of the earlier one's unit, ran under one binding, and so at one node.
abbrev pub IsAtOneNode : State → Type 0
IsAtOneNode s = (c d : Call) (m : Act) → In c s.calls → In d s.calls → c.line < d.line → Survives s c.act → Survives s d.act → root c.act
    ≢ root d.act → IsCommitted s m → root m ≡ root c.act → d.line ≤ (s.action m).place → s.kept (root c.act) ≡ s.kept (root d.act)

-- The call counts for the top's commit: it is the top's own, or its top was committed before that commit was called.
abbrev pub CountsFor : State → Act → Act → Type 0
CountsFor s m a = IsCommitted s m × Covered s m a

-- The top is committed, of the action's unit, and its commit wasn't called before that of the action's own top. The last
-- member of the unit is such a top.
abbrev pub Closes : State → Act → Act → Type 0
Closes s m a = IsCommitted s m × (root m ≡ root a) × ((s.action (top a)).place ≤ (s.action m).place)

-- The action's unit, or a top of it.
abbrev pub OfUnit : Act → Act → Type 0
OfUnit a h = (h ≡ Root (root a)) ⊎ ((is_top h ≡ true) × (root h ≡ root a))

-- In state s a row of the call's mode, held on its path, stands at the server of the binding that its root keeps at the end
-- (in state t), which is one node for all states; and one on the entry, held by its unit.
pub record IsHeld (s t : State) (c : Call) : Type 0 where
  pub server : (h : Act) × (on c.act h ≡ true) × (mode c.write ≤ (s.server (t.binding (t.kept (root c.act))).server).rows h)
  pub entry : (h : Act) × OfUnit c.act h × (1 ≤ s.naming.rows h)

-- In the state its unit has the write row on the entry.
abbrev pub IsEntryWritten : State → Include → Type 0
IsEntryWritten s c = (h : Act) × OfUnit c.act h × (2 ≤ s.naming.rows h)

-- The calls, newest first: each surviving one met the value that the newest surviving write before it left, or the first
-- value where there is none.
abbrev pub SawTheLast : State → List Call → Type 0
SawTheLast s [] = Unit {0}
SawTheLast s (d ∷ cs) = (Survives s d.act → IsLast s d.sees cs) × SawTheLast s cs

-- What the stores are given. A top whose commit is decided, and that has a write which wasn't undone, voted for the value of
-- its newest write; and until its committed line stands, the value that lay under it at the voting server is the last
-- committed one, so that what it changed stands one version above that.
pub record VotesAreRight (s : State) : Type 0 where
  pub value : (m : Act) (c : Call) → is_top m ≡ true → 2 ≤ (s.action m).stage → (s.action m).stage ≤ 3 → In c s.calls → c.write ≡ true →
      top c.act ≡ m → Alive s c.act → Newest s.initial (λ a. (top a ≡ m) × Alive s a) (s.vote m).value s.calls
  pub under : (m : Act) (c : Call) → is_top m ≡ true → (s.action m).stage ≡ 2 → In c s.calls → c.write ≡ true → top c.act ≡ m →
      Alive s c.act → IsLast s (s.vote m).under s.calls

-- what a vote of this server for the top gives now
abbrev pub given_by : State → ℕ → Act → Ballot
given_by s n m = record { value = held_value m (s.server n).base (s.server n).log; under = (s.server n).base }

-- A server that may vote again as it did, under the binding that the top's unit keeps, gives the same: while the commit is called and not
-- decided, naming is of the binding's incarnation, and the top has a write that wasn't undone.
abbrev pub VotesAgree : State → Type 0
VotesAgree s = (n : ℕ) (m : Act) (i : ℕ) (c : Call) → Guard (VoteTop n m (s.yes m) i) s → (s.action m).stage ≡ 1 →
    s.yes m ≡ s.kept (root m) → s.naming.first ≤ s.kept (root m)
    → In c s.calls → c.write ≡ true → top c.act ≡ m → Alive s c.act → s.vote m ≡ given_by s n m

-- A vote that a server gave for the top, under the binding that its unit keeps, stands as long as that is the greatest one under which a
-- server voted: while the commit is called and not decided, naming is of the binding's incarnation, and the top has a write that wasn't
-- undone.
abbrev pub GivenStands : State → Type 0
GivenStands s = (n : ℕ) (m : Act) (b i : ℕ) (t : State) (c : Call) → Guard (VoteTop n m b i) s → Run (next (VoteTop n m b i) s) t →
    (t.action m).stage ≡ 1 → t.yes m ≡ b → t.kept (root m) ≡ b → t.naming.first ≤ b
    → In c t.calls → c.write ≡ true → top c.act ≡ m → Alive t c.act → t.vote m ≡ given_by s n m

-- Of the binding that a unit keeps an incarnation was heard, where a call of the unit wasn't undone; and it isn't 0.
abbrev pub KeptAreNamed : State → Type 0
KeptAreNamed s = (c : Call) → In c s.calls → Alive s c.act → ((s.binding (s.kept (root c.act))).named ≡ true) × (1 ≤ s.kept (root c.act))
