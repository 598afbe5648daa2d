-- The steps of the lock machine: when one may be taken, and the state after it. Guards allow more than the nodes do.
-- Nested ends have no message: what a frame may claim of an end is what its coordinator decided once. An answer that comes
-- again is no step: the message is in the net.
use Rattle.std.proofs.Common.{◌≡◌, ◌≢◌, ◌≤◌, ◌<◌, ◌⊎◌, ℕ, List, [], ◌∷◌, Bool, true, false, cond}
use Rattle.arj_law_lock.specs.machine.Actions.{Act, Root, same, on, root, top, is_action, In}
use Rattle.arj_law_lock.specs.machine.State.{Naming, Entry, Server, Call, Request, Answer, Live, Made, Recorded, State, Alive, Merged}
use Rattle.arj_law_lock.specs.machine.State.{Retained}

-- The steps.
pub data Event : Type 0 where
  -- naming
  CrashNaming : ℕ → Event  -- with the least binding of the next incarnation
  BindLive : Act → Event  -- a top gets a read row and the recorded binding
  BindNew : Act → ℕ → ℕ → Event  -- a top gets the write row and a new binding, at a server
  Grant : Act → Event  -- a top gets the write row for an include
  Record : ℕ → Event  -- the binding is recorded
  ConfirmTop : Act → ℕ → Event  -- a top is confirmed, with its least grant
  PassEntry : ℕ → ℕ → Event  -- a unit takes over the row of its committed top
  DropEntry : Act → Event  -- the rows of an ended action, and of all below it, go
  -- servers, by node
  CrashServer : ℕ → ℕ → Event  -- with the next incarnation
  ActivateCopy : ℕ → ℕ → ℕ → Event  -- binding and state
  Apply : ℕ → Request → ℕ → Event  -- an Invoke is applied, and leaves a value
  Refuse : ℕ → Request → Event  -- an Invoke meets a conflict
  Change : ℕ → Request → Event  -- an Invoke meets another incarnation or binding
  PassRow : ℕ → Act → ℕ → Event  -- a nested action's commit is applied
  PassTop : ℕ → ℕ → ℕ → Event  -- a top's commit is applied: its value becomes the copy's own
  DropRows : ℕ → Act → Event  -- the end of an action is applied as an abort
  VoteTop : ℕ → Act → ℕ → ℕ → Event  -- the server votes Yes, under a binding and an incarnation
  -- coordinators
  Keep : Act → ℕ → Event  -- a top's root keeps a binding that an answer named
  Name : ℕ → ℕ → Event  -- the maker's root hears the first incarnation of the kept binding
  Load : ℕ → ℕ → Event  -- a store gives the state for a new binding
  SendInvoke : Act → ℕ → Bool → Event  -- with a greater request number
  Answered : Answer → ℕ → Event  -- the ok line, at a place
  TurnedDown : Request → Event  -- the waiting call is answered by a conflict
  Lost : Act → Event  -- or by Changed
  GiveUp : Act → Event  -- or is given up, and dooms its action
  CommitNested : Act → ℕ → Event  -- the committed line of a nested action
  Abort : Act → Event  -- of an action that isn't decided; a stop of its node too
  CommitTop : Act → ℕ → Event  -- a top's commit is called: its committing line
  SendVote : Act → ℕ → Event  -- with an incarnation not above the kept one
  SendConfirm : Act → ℕ → Event  -- with a number not above any grant that counts
  Decide : Act → Event
  Report : Act → ℕ → Event  -- the committed or recovered line
  EndUnit : ℕ → Event  -- no top of the unit commits any more
  Included : Act → ℕ → ℕ → Event  -- the includes line, by a grant

-- The value that a request at the copy meets: the newest write over it, or its own value.
abbrev pub value_over : ℕ → List Entry → ℕ
value_over base [] = base
value_over base (e ∷ es) = e.gives

-- The value of the newest write that the action itself holds, or else the copy's own.
abbrev pub held_value : Act → ℕ → List Entry → ℕ
held_value a base [] = base
held_value a base (e ∷ es) = cond (same e.holder a) e.gives (held_value a base es)

-- All actions of the path are committed, the top too.
abbrev pub Survives : State → Act → Type 0
Survives s a = (u : Act) → on a u ≡ true → is_action u ≡ true → (s.action u).stage ≡ 3

-- The value of the newest write, by an action that counts, among the calls (newest first); the first value where there is none.
pub data Newest (first : ℕ) (Counts : Act → Type 0) (v : ℕ) : List Call → Type 0 where
  none : first ≡ v → Newest first Counts v []
  newest : (c : Call) {cs : List Call} → c.write ≡ true → Counts c.act → c.gives ≡ v → Newest first Counts v (c ∷ cs)
  older : (c : Call) {cs : List Call} → (c.write ≡ true → Counts c.act → ⊥) → Newest first Counts v cs → Newest first Counts v (c ∷ cs)

-- the value that the newest surviving write among these calls left, or the first value
abbrev pub IsLast : State → ℕ → List Call → Type 0
IsLast s v cs = Newest s.initial (Survives s) v cs

-- No top with a surviving write is confirmed and unreported, but by a binding of naming's present incarnation.
abbrev pub NobodyInDoubt : State → Type 0
NobodyInDoubt s = (c : Call) → In c s.calls → c.write ≡ true → Alive s c.act → s.confirmed (top c.act) ≡ true →
    (s.action (top c.act)).stage ≤ 2 → s.naming.first ≤ s.kept (root c.act)

-- The binding was made last for its maker and isn't recorded, and naming wasn't told of its maker's end.
pub record IsCurrent (n : Naming) (maker : Act) (b : ℕ) : Type 0 where
  pub present : n.first ≤ b
  pub unrecorded : n.recorded < b
  pub untold : n.told maker ≡ false
  pub last : n.made maker ≡ b

-- The one premise on stores: what a listed store answers to a Load for a current binding is the last committed value, and
-- nothing is in doubt there.
pub record LoadsTheLast (s : State) (v : ℕ) : Type 0 where
  pub value : IsLast s v s.calls
  pub settled : NobodyInDoubt s

-- The end of the action is an abort, or its unit is over.
abbrev pub IsGone : State → Act → Type 0
IsGone s a = ((s.action a).stage ≡ 4) ⊎ ((s.action (Root (root a))).stage ≡ 3)

-- An action that can't be a surviving one: on its path one was aborted, or is doomed.
abbrev pub Spoilt : State → Act → Type 0
Spoilt s a = (u : Act) × (on a u ≡ true) × (((s.action u).stage ≡ 4) ⊎ ((s.action u).doomed ≡ true))

-- The nested ends below the top are applied to the log: what isn't held by the top itself is spoilt.
abbrev pub IsFolded : State → List Entry → Act → Type 0
IsFolded s log m = (e : Entry) → In e log → on e.holder m ≡ true → (e.holder ≡ m) ⊎ Spoilt s e.by

-- No write of a committed top with surviving writes, for which the server voted, is left there below the action.
abbrev pub IsDrained : State → Server → Act → Type 0
IsDrained s v a = (e : Entry) → In e v.log → on e.holder a ≡ true → (s.action (top e.by)).stage ≡ 3 → v.voted (top e.by) ≡ true →
    (c : Call) → In c s.calls → c.write ≡ true → Survives s c.act → top c.act ≢ top e.by

-- The copy of the binding, in the incarnation that the root knows, is gone from this server.
abbrev pub IsElsewhere : Server → ℕ → ℕ → Type 0
IsElsewhere v incarnation b = (v.incarnation ≢ incarnation) ⊎ (v.active ≢ b)

-- the binding's copy stands at this server, in the incarnation that was heard
abbrev pub IsAt : State → ℕ → ℕ → Type 0
IsAt s n b = ((s.binding b).server ≡ n) × ((s.server n).incarnation ≡ (s.binding b).incarnation) × ((s.server n).active ≡ b)

-- What lies below the action is whole: each call that may survive has passed to it, and none waits.
pub record IsWhole (s : State) (a : Act) : Type 0 where
  pub calls : (c : Call) → In c s.calls → on c.act a ≡ true → Alive s c.act → Merged s c.act a
  pub waits : (b : Act) → on b a ≡ true → (s.action b).waits ≡ true → Alive s b → ⊥

-- The root knows that its kept binding is recorded.
abbrev pub KnowsRecorded : State → ℕ → Type 0
KnowsRecorded s b = In (Recorded b) s.net ⊎ ((m : Act) × In (Live m b) s.net)

-- Who may use the kept binding: a top that an own answer named it to, or one whose unit retains the object.
abbrev pub MayUse : State → Act → ℕ → Type 0
MayUse s m b = In (Live m b) s.net ⊎ (In (Made m b) s.net ⊎ ((c : Call) × In c s.calls × Alive s c.act × Retained s (root m) c.act))
