-- What the naming node, and the coordinators towards it, look at before an act.
use Rattle.std.specs.Prelude.{◌≡◌, ◌⊎◌, ℕ, ◌+◌, ◌≤◌, ◌==◌, ◌||◌, not, List, [], ◌∷◌, Bool, true, false, Some, None, is_some, bytes_eq, ⊤}
use Rattle.arj_law_disk.specs.machine.Effects.{Effect, Begin, Take, Seal, Intend, Decide, Remove, EndBare, Halt, Keep, Move, Finish, Drop}
use Rattle.arj_law_disk.specs.machine.Effects.{Agree, Pass, Enter, MoveEntry, FinishEntry, DropEntry, Forget, Send, Allowed, MaySend, IsNot}
use Rattle.arj_law_disk.specs.machine.Effects.{IsUnlisted, NoneIsListed, new_list}
use Rattle.arj_law_disk.specs.machine.Messages.{Message, Prepare, Prepared, Confirm, Confirmed, ToldCommit, ToldBare, ToldAbort, Acked}
use Rattle.arj_law_disk.specs.machine.Messages.{ToldSerial}
use Rattle.arj_law_disk.specs.machine.Names.{Names, Office, Kept, Bound, Loaded, Act, Do, Commit, CommitBare, Read, Write, Exclude, Lower}
use Rattle.arj_law_disk.specs.machine.Names.{Unbind, EndTop, EndSerial, Restart, Hear, KeepList, AnswerLoad, acted, load_of}
use Rattle.arj_law_disk.specs.machine.State.{State, Packed, Plan, Hold, Idle, naming, is_gone, last, undecided, target, IsNew}
use Rattle.arj_law_disk.specs.machine.Words.{has, In}

-- the holder has a lock of at least this mode
abbrev pub HasRow : Names → ℕ → ℕ → Type 0
HasRow N h m = (n : ℕ) × (N.row h ≡ Some n) × (m ≤ n)

-- each lock that conflicts with the mode is the top's own, or its root's
abbrev pub IsFree : State → Names → ℕ → ℕ → Type 0
IsFree S N t m = (h n : ℕ) → N.row h ≡ Some n → 2 ≤ m + n → (h ≡ t) ⊎ (h ≡ S.root t)

-- neither the action nor its root was told of
abbrev pub IsUntold : State → Names → ℕ → Type 0
IsUntold S N t = (N.told t ≡ false) × (N.told (S.root t) ≡ false)

-- each grant that the top has, or that its root retains, is of the present incarnation
abbrev pub IsPresent : State → Names → ℕ → Type 0
IsPresent S N t = (i : ℕ) → (N.had t i ≡ true) ⊎ (N.had (S.root t) i ≡ true) → i ≡ N.inc

-- and there is one
abbrev pub IsGranted : State → Names → ℕ → Type 0
IsGranted S N t = (N.had t N.inc ≡ true) ⊎ (N.had (S.root t) N.inc ≡ true)

-- the top changed the object, or includes a store
abbrev pub HasPart : Plan → Type 0
HasPart p = (is_some p.writes ≡ true) ⊎ ((s : ℕ) × (has s p.joins ≡ true))

-- Where a marked store is listed, or stands in an entry that another top has prepared, the exclude lock is the top's.
abbrev pub MayExclude : State → Names → ℕ → Type 0
MayExclude S N t = (s : ℕ) → target (S.plan t) s ≡ true → S.got t s ≡ false
    → (has s S.entry.content ≡ true) ⊎ ((h : Hold) × (S.entry_pend ≡ Some h) × (has s h.new.content ≡ true)) → HasRow N t 1

-- A commit begins: none of its root's outcomes is open; what it wrote is by a new writer; its list has each store of the kept one, as long
-- as its grants are of the present incarnation; what it includes was loaded, or its root has it newer.
pub record MayBegin (A : Office) (t : ℕ) (p : Plan) : Type 0 where
  pub idle : A.world.disk.stage t ≡ Idle
  pub root : is_gone (A.world.disk.stage (A.world.disk.root t)) ≡ false
  pub top : A.world.disk.serial t ≡ false
  pub first : (z : ℕ) → A.world.disk.root z ≡ A.world.disk.root t → undecided A.world.disk z ≡ false
  pub writer : (w : Packed) → p.writes ≡ Some w → (w.writer ≡ t) × IsNew A.world.disk t
  pub list : is_some p.writes ≡ true → (i : ℕ) × ((A.names.had t i ≡ true) ⊎ (A.names.had (A.world.disk.root t) i ≡ true))
      × (IsPresent A.world.disk A.names t → (h : ℕ) × ((h ≡ t) ⊎ (h ≡ A.world.disk.root t)) × (k : Kept) × (A.names.kept h ≡ Some k)
      × ((s : ℕ) → has s k.list ≡ true → has s p.list ≡ true))
  pub loaded : (s : ℕ) → has s p.joins ≡ true →
      (i : ℕ) × (g : Packed) × In (Loaded t i g) A.names.answers × (A.names.had t i ≡ true) × (p.loaded ≡ load_of A.world.disk t g)

-- What a top counts on of grants: each that it has itself is of the present incarnation; and so is each that its root retains, while
-- its outcome is open.
pub record HasPresent (S : State) (N : Names) (t : ℕ) : Type 0 where
  pub own : (i : ℕ) → N.had t i ≡ true → i ≡ N.inc
  pub all : undecided S t ≡ true → IsPresent S N t

-- What the servers' locks give: what the top wrote is one version above the last state, while its outcome is open.
abbrev pub IsNext : State → ℕ → Type 0
IsNext S t = undecided S t ≡ true → (w : Packed) → (S.plan t).writes ≡ Some w → w.version ≡ (last S).version + 1

-- what a confirmation looks at in each case: a top with a part in the object wasn't confirmed before
pub record MayConfirm (A : Office) (t : ℕ) : Type 0 where
  pub asked : In (Confirm t) A.world.sent
  pub new : A.names.confd t ≡ false
  pub fresh : HasPart (A.world.disk.plan t) → (A.world.disk.conf t ≡ true) ⊎ (A.world.disk.light t ≡ true) → ⊥
  pub untold : IsUntold A.world.disk A.names t
  pub unlisted : IsUnlisted A.world.disk t
  pub exclude : MayExclude A.world.disk A.names t

-- The three kinds of confirmation, as an effect's conditions and the grants that the top counts on. One that changes nothing
-- includes no listed store.
pub record MayAgree (A : Office) (t : ℕ) : Type 0 where
  pub confirm : MayConfirm A t
  pub present : HasPresent A.world.disk A.names t
  pub writes : is_some (A.world.disk.plan t).writes ≡ true
  pub same : bytes_eq (new_list A.world.disk t) A.world.disk.entry.content ≡ true
  pub next : IsNext A.world.disk t

-- A Confirm may pass that changes nothing of the entry: its top wrote nothing, no store took a state of it, and it includes none that is
-- listed.
pub record MayPass (A : Office) (t : ℕ) : Type 0 where
  pub confirm : MayConfirm A t
  pub present : HasPart (A.world.disk.plan t) → HasPresent A.world.disk A.names t
  pub plain : (A.world.disk.plan t).writes ≡ None
  pub none : (s : ℕ) → A.world.disk.got t s ≡ false
  pub idle : NoneIsListed A.world.disk t

-- A Confirm may enter that changes the list, where the new one has a store.
pub record MayEnter (A : Office) (t : ℕ) : Type 0 where
  pub confirm : MayConfirm A t
  pub present : HasPresent A.world.disk A.names t
  pub other : bytes_eq (new_list A.world.disk t) A.world.disk.entry.content ≡ false
  pub stores : (s : ℕ) × (has s (new_list A.world.disk t) ≡ true)
  pub next : IsNext A.world.disk t

-- who acknowledges at the naming node was told there
abbrev pub IsToldFirst : Names → Message → Type 0
IsToldFirst N (Acked t m) = m ≡ naming → N.told t ≡ true
IsToldFirst N (Prepare t s) = ⊤
IsToldFirst N (Prepared t s) = ⊤
IsToldFirst N (Confirm t) = ⊤
IsToldFirst N (Confirmed t) = ⊤
IsToldFirst N (ToldCommit t m) = ⊤
IsToldFirst N (ToldBare t m) = ⊤
IsToldFirst N (ToldAbort t m) = ⊤
IsToldFirst N (ToldSerial r m) = ⊤

-- A decision by which nothing is retained: one that its root doesn't see, since its coordinator stopped; that of a top
-- that is its own root; or one without a part in the object.
abbrev pub IsUnretained : State → ℕ → Type 0
IsUnretained S t = (is_gone (S.stage (S.root t)) ≡ true) ⊎ (S.root t ≡ t) ⊎ (HasPart (S.plan t) → ⊥)

-- what is looked at before an effect, where the naming node's half is there
abbrev pub MayDo : Office → Effect → Type 0
MayDo A (Begin t p) = MayBegin A t p
MayDo A (Agree t) = MayAgree A t
MayDo A (Pass t) = MayPass A t
MayDo A (Enter t) = MayEnter A t
MayDo A (Decide t) = Allowed A.world (Decide t) × IsUnretained A.world.disk t
MayDo A (Send m) = MaySend A.world m × IsToldFirst A.names m
MayDo A (Take t s) = Allowed A.world (Take t s)
MayDo A (Seal t) = Allowed A.world (Seal t)
MayDo A (Intend t nodes) = Allowed A.world (Intend t nodes)
MayDo A (Remove t nodes) = Allowed A.world (Remove t nodes)
MayDo A (EndBare t) = Allowed A.world (EndBare t)
MayDo A (Halt t) = ⊤
MayDo A (Keep t s) = Allowed A.world (Keep t s)
MayDo A (Move s h) = Allowed A.world (Move s h)
MayDo A (Finish s h) = Allowed A.world (Finish s h)
MayDo A (Drop s h) = Allowed A.world (Drop s h)
MayDo A (MoveEntry h) = Allowed A.world (MoveEntry h)
MayDo A (FinishEntry h) = Allowed A.world (FinishEntry h)
MayDo A (DropEntry h) = Allowed A.world (DropEntry h)
MayDo A (Forget r h) = Allowed A.world (Forget r h)

-- In what the naming node's half has a part: a top's commit begins; it is decided, or ends without a record; it is confirmed;
-- and the naming node acknowledges its end.
pub data Note : Type 0 where
  Begins Decides Confirms Acks : ℕ → Note

-- naming's half has no part in what is sent, or one of these
abbrev pub tells_only_of : (Note → Bool) → Message → Bool
tells_only_of f (Prepare t s) = true
tells_only_of f (Prepared t s) = true
tells_only_of f (Confirm t) = true
tells_only_of f (Confirmed t) = true
tells_only_of f (ToldCommit t m) = true
tells_only_of f (ToldBare t m) = true
tells_only_of f (ToldAbort t m) = true
tells_only_of f (Acked t m) = not (m == naming) || f (Acks t)
tells_only_of f (ToldSerial r m) = true

-- nor in the effect, or one of these
abbrev pub is_only_of : (Note → Bool) → Effect → Bool
is_only_of f (Begin t p) = f (Begins t)
is_only_of f (Take t s) = true
is_only_of f (Seal t) = true
is_only_of f (Intend t nodes) = true
is_only_of f (Decide t) = f (Decides t)
is_only_of f (Remove t nodes) = true
is_only_of f (EndBare t) = f (Decides t)
is_only_of f (Halt t) = true
is_only_of f (Keep t s) = true
is_only_of f (Move s h) = true
is_only_of f (Finish s h) = true
is_only_of f (Drop s h) = true
is_only_of f (Agree t) = f (Confirms t)
is_only_of f (Pass t) = f (Confirms t)
is_only_of f (Enter t) = f (Confirms t)
is_only_of f (MoveEntry h) = true
is_only_of f (FinishEntry h) = true
is_only_of f (DropEntry h) = true
is_only_of f (Forget r h) = true
is_only_of f (Send m) = tells_only_of f m

-- so it is of all effects
abbrev pub AreOnlyOf : (Note → Bool) → List Effect → Type 0
AreOnlyOf f [] = ⊤
AreOnlyOf f (e ∷ es) = (is_only_of f e ≡ true) × AreOnlyOf f es

-- the naming node's half has no part in it
abbrev pub ArePlain : List Effect → Type 0
ArePlain es = AreOnlyOf (λ n. false) es

-- naming acknowledges the top's end
abbrev pub only_acks : ℕ → Note → Bool
only_acks t (Acks z) = z == t
only_acks t (Begins z) = false
only_acks t (Decides z) = false
only_acks t (Confirms z) = false

-- tops of these are decided
abbrev pub only_decides : (ℕ → Bool) → Note → Bool
only_decides g (Decides z) = g z
only_decides g (Begins z) = false
only_decides g (Confirms z) = false
only_decides g (Acks z) = false

-- the top's commit begins
abbrev pub only_begins : ℕ → Note → Bool
only_begins t (Begins z) = z == t
only_begins t (Decides z) = false
only_begins t (Confirms z) = false
only_begins t (Acks z) = false

-- a top asks for a lock that is free for it
pub record MayLock (A : Office) (t m : ℕ) : Type 0 where
  pub top : A.world.disk.serial t ≡ false
  pub free : IsFree A.world.disk A.names t m

-- A new binding is recorded once, by a top that took its grant, and not while an entry of it is prepared, unless it asked
-- the lock by an include too.
pub record MayLower (A : Office) (t : ℕ) : Type 0 where
  pub held : A.names.row t ≡ Some 2
  pub had : A.names.had t A.names.inc ≡ true
  pub clear : A.names.asked t ≡ false → IsNot A.world.disk.entry_pend t

-- A top is told of as ended once, after its own entry has ended.
pub record MayEndTop (A : Office) (t : ℕ) (commits : Bool) : Type 0 where
  pub top : A.world.disk.serial t ≡ false
  pub untold : A.names.told t ≡ false
  pub clear : IsNot A.world.disk.entry_pend t
  pub told : (commits ≡ true → In (ToldCommit t naming) A.world.sent ⊎ In (ToldBare t naming) A.world.sent)
      × (commits ≡ false → In (ToldAbort t naming) A.world.sent)

-- A serializing action is told of as ended after the entries of those whose locks go with it were dropped.
pub record MayEndSerial (A : Office) (r : ℕ) : Type 0 where
  pub serial : A.world.disk.serial r ≡ true
  pub told : In (ToldSerial r naming) A.world.sent
  pub clear : (h : Hold) → A.world.disk.entry_pend ≡ Some h → A.world.disk.root h.top ≡ r → A.names.given h.top ≡ true

-- After a restart those are known as confirmed that have an entry prepared, of this object or of another one.
pub record MayRestart (A : Office) (yes_again : ℕ → Bool) : Type 0 where
  pub pending : (h : Hold) → A.world.disk.entry_pend ≡ Some h → yes_again h.top ≡ true
  pub taken : (t : ℕ) → yes_again t ≡ true →
      (A.world.disk.begun t ≡ true) × (undecided A.world.disk t ≡ true → (A.world.disk.conf t ≡ true) ⊎ (A.world.disk.light t ≡ true))

-- an answer is taken while the top works
pub record MayHear (A : Office) (t i : ℕ) (b : Bool) (l : List ℕ) : Type 0 where
  pub answered : In (Bound t i b l) A.names.answers
  pub idle : A.world.disk.stage t ≡ Idle

-- an answer's list is kept for an action of the root that has a grant of that incarnation
pub record MayKeepList (A : Office) (h t i : ℕ) (l : List ℕ) : Type 0 where
  pub hears : MayHear A t i false l
  pub family : A.world.disk.root h ≡ A.world.disk.root t
  pub had : A.names.had h i ≡ true

-- a store of an include's list, where the object isn't in doubt, answers with what it holds
pub record MayAnswerLoad (A : Office) (t i s : ℕ) (l : List ℕ) (g : Packed) : Type 0 where
  pub answered : In (Bound t i true l) A.names.answers
  pub listed : has s l ≡ true
  pub free : A.world.disk.pend s ≡ None
  pub held : A.world.disk.held s ≡ Some g

-- what is looked at before an act
abbrev pub May : Office → Act → Type 0
May A (Do e) = MayDo A e
May A (Commit t) = Allowed A.world (Decide t)
May A (CommitBare t) = Allowed A.world (EndBare t)
May A (Read t) = MayLock A t 0 × (A.names.live ≡ true)
May A (Write t b) = MayLock A t 2
May A (Exclude t) = MayLock A t 1
May A (Lower t) = MayLower A t
May A Unbind = ⊤
May A (EndTop t commits) = MayEndTop A t commits
May A (EndSerial r) = MayEndSerial A r
May A (Restart yes_again) = MayRestart A yes_again
May A (Hear t i b l) = MayHear A t i b l
May A (KeepList h t i l) = MayKeepList A h t i l
May A (AnswerLoad t i s l g) = MayAnswerLoad A t i s l g

-- each act of the list may be done when it comes
abbrev pub Runs : Office → List Act → Type 0
Runs A [] = ⊤
Runs A (a ∷ acts) = May A a × Runs (acted A a) acts

-- the office after a list of acts
abbrev pub end_of : Office → List Act → Office
end_of A [] = A
end_of A (a ∷ acts) = end_of (acted A a) acts
