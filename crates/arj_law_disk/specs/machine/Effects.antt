-- What a node does, as effects on the one object: what it looks at before, and what changes. A step of a node is a list of
-- effects, and a stop is a front of it.
use Rattle.std.specs.Prelude.{◌≡◌, ◌⊎◌, ℕ, ◌+◌, List, [], ◌∷◌, Bool, true, false, ◌||◌, not, Option, Some, None, is_some, bytes_eq, ⊤}
use Rattle.arj_law_disk.specs.machine.Core.{Core}
use Rattle.arj_law_disk.specs.machine.Messages.{Message, Prepare, Prepared, Confirm, Confirmed, ToldCommit, ToldBare, ToldAbort, Acked}
use Rattle.arj_law_disk.specs.machine.Messages.{ToldSerial, Meaning}
use Rattle.arj_law_disk.specs.machine.State.{State, Packed, Plan, Hold, Done, Idle, Preparing, Confirming, Gone, naming, is_gone, decided}
use Rattle.arj_law_disk.specs.machine.State.{undecided, target, state_for, hold, list_after, entry_after, last, Known, Below, Listed}
use Rattle.arj_law_disk.specs.machine.State.{IsExcused}
use Rattle.arj_law_disk.specs.machine.Words.{has, In, put, put2}

-- an effect of a node, as far as one object and its entry go
pub data Effect : Type 0 where
  -- coordinators: a top's commit sends its prepares, a Yes is taken, the prepare step ends, the record is renamed into
  -- place, the decision's line is written, the record is removed; a commit that needs no record; and the coordinator has no
  -- more of an action, which aborted, ended, or stopped with its node
  Begin : ℕ → Plan → Effect
  Take : ℕ → ℕ → Effect
  Seal : ℕ → Effect
  Intend : ℕ → List ℕ → Effect
  Decide : ℕ → Effect
  Remove : ℕ → List ℕ → Effect
  EndBare : ℕ → Effect
  Halt : ℕ → Effect
  -- stores: a state is prepared; a commit moves it to its place, and then finishes; an abort drops it
  Keep : ℕ → ℕ → Effect
  Move Finish Drop : ℕ → Hold → Effect
  -- the naming node: a top is confirmed, as one that wrote and leaves the entry as it is, as one that changes nothing, or
  -- with a new entry prepared; the prepared entry is moved, finished, dropped for its top's own abort or for the end of its
  -- serializing action
  Agree Pass Enter : ℕ → Effect
  MoveEntry FinishEntry DropEntry : Hold → Effect
  Forget : ℕ → Hold → Effect
  -- a message is sent
  Send : Message → Effect

-- the object, with all that was ever sent
pub record World : Type 0 where
  pub disk : State
  pub sent : List Message

-- a top's decision, as the journal has it
abbrev pub done_of : State → ℕ → Done
done_of S t = record { top = t; plan = S.plan t; got = S.got t; counts = not (S.light t) }

-- the entry that a top would have prepared
abbrev pub entry_hold : State → ℕ → Hold
entry_hold S t = record { top = t; new = entry_after t (S.plan t) (S.got t) S.entry }

-- a top marked, if its outcome is open
abbrev pub marked : State → ℕ → (ℕ → Bool) → ℕ → Bool
marked S t f = put t (f t || undecided S t) f

-- what each effect changes
abbrev pub changed : State → Effect → State
changed S (Begin t p) = record S { stage = put t Preparing S.stage; plan = put t p S.plan; begun = put t true S.begun }
changed S (Take t s) = record S { got = put2 t s true S.got }
changed S (Seal t) = record S { stage = put t Confirming S.stage }
changed S (Intend t nodes) = record S { intent = put t (Some nodes) S.intent }
changed S (Decide t) = record S { stage = put t Gone S.stage; tops = done_of S t ∷ S.tops }
changed S (Remove t nodes) = record S { intent = put t None S.intent }
changed S (EndBare t) = record S { stage = put t Gone S.stage; bare = put t true S.bare }
changed S (Halt t) = record S { stage = put t Gone S.stage }
changed S (Keep t s) = record S { pend = put s (Some (hold S t)) S.pend }
changed S (Move s h) = record S { held = put s (Some h.new) S.held }
changed S (Finish s h) = record S { pend = put s None S.pend; went = put2 h.top s true S.went }
changed S (Drop s h) = record S { pend = put s None S.pend }
changed S (Agree t) = record S { conf = marked S t S.conf }
changed S (Pass t) = record S { light = marked S t S.light }
changed S (Enter t) = record S { conf = marked S t S.conf; entry_pend = Some (entry_hold S t) }
changed S (MoveEntry h) = record S { entry = h.new }
changed S (FinishEntry h) = record S { entry_pend = None }
changed S (DropEntry h) = record S { entry_pend = None }
changed S (Forget r h) = record S { entry_pend = None }
changed S (Send m) = S

-- what was ever sent, after each effect
abbrev pub mailed : List Message → Effect → List Message
mailed sent (Begin t p) = sent
mailed sent (Take t s) = sent
mailed sent (Seal t) = sent
mailed sent (Intend t nodes) = sent
mailed sent (Decide t) = sent
mailed sent (Remove t nodes) = sent
mailed sent (EndBare t) = sent
mailed sent (Halt t) = sent
mailed sent (Keep t s) = sent
mailed sent (Move s h) = sent
mailed sent (Finish s h) = sent
mailed sent (Drop s h) = sent
mailed sent (Agree t) = sent
mailed sent (Pass t) = sent
mailed sent (Enter t) = sent
mailed sent (MoveEntry h) = sent
mailed sent (FinishEntry h) = sent
mailed sent (DropEntry h) = sent
mailed sent (Forget r h) = sent
mailed sent (Send m) = m ∷ sent

-- the object after an effect
abbrev pub after : World → Effect → World
after W e = record { disk = changed W.disk e; sent = mailed W.sent e }

-- no top that is prepared at a place is this one
abbrev pub IsNot : Option Hold → ℕ → Type 0
IsNot prepared t = (h : Hold) → prepared ≡ Some h → h.top ≡ t → ⊥

-- what a sender looks at
abbrev pub MaySend : World → Message → Type 0
MaySend W (Prepare t s) = (W.disk.begun t ≡ true) × (target (W.disk.plan t) s ≡ true)
MaySend W (Prepared t s) = W.disk.pend s ≡ Some (hold W.disk t)
MaySend W (Confirm t) = W.disk.stage t ≡ Confirming
MaySend W (Confirmed t) = In (Confirm t) W.sent × (undecided W.disk t ≡ true → (W.disk.conf t ≡ true) ⊎ (W.disk.light t ≡ true))
MaySend W (ToldCommit t m) = decided W.disk t ≡ true
MaySend W (ToldBare t m) = W.disk.bare t ≡ true
MaySend W (ToldAbort t m) = Meaning W.disk (ToldAbort t m)
MaySend W (Acked t m) = In (ToldCommit t m) W.sent × IsNot (W.disk.pend m) t × (m ≡ naming → IsNot W.disk.entry_pend t)
MaySend W (ToldSerial r m) = Meaning W.disk (ToldSerial r m)

-- What the confirmation of a top whose outcome is open rests on: it is the first one; no other such top counts for the
-- object; it writes the version after the last one, and includes stores with the last state; and each listed store is a
-- target of what it wrote, or about to leave the list.
pub record Locked (S : State) (t : ℕ) : Type 0 where
  pub unconfirmed : S.conf t ≡ false
  pub not_light : S.light t ≡ false
  pub alone : (z : ℕ) → S.conf z ≡ true → undecided S z ≡ true → ⊥
  pub next : (w : Packed) → (S.plan t).writes ≡ Some w → w.version ≡ (last S).version + 1
  pub loaded : (s : ℕ) → has s (S.plan t).joins ≡ true → (S.plan t).loaded ≡ last S
  pub wide : (s : ℕ) → is_some (S.plan t).writes ≡ true → Listed S s → (target (S.plan t) s ≡ true) ⊎ IsExcused S t s

-- no store that the top has marked stands in a prepared entry
abbrev pub IsClear : State → ℕ → Type 0
IsClear S t = (h : Hold) (s : ℕ) → S.entry_pend ≡ Some h → has s h.new.content ≡ true → target (S.plan t) s ≡ true → S.got t s ≡ true

-- no store that a top includes and that said Yes is listed
abbrev pub IsUnlisted : State → ℕ → Type 0
IsUnlisted S t = (s : ℕ) → has s (S.plan t).joins ≡ true → S.got t s ≡ true → has s S.entry.content ≡ false

-- no store that a top includes is listed
abbrev pub NoneIsListed : State → ℕ → Type 0
NoneIsListed S t = (s : ℕ) → has s (S.plan t).joins ≡ true → has s S.entry.content ≡ false

-- the list that the top would leave of the held entry
abbrev pub new_list : State → ℕ → List ℕ
new_list S t = list_after (S.plan t) (S.got t) S.entry.content

-- a commit begins while the top works and its root is there; what it includes is a known state
pub record CanBegin (S : State) (t : ℕ) (p : Plan) : Type 0 where
  pub idle : S.stage t ≡ Idle
  pub root : is_gone (S.stage (S.root t)) ≡ false
  pub loaded : (s : ℕ) → has s p.joins ≡ true → Known S p.loaded

-- a record is written by a top with the naming node's Yes, and lists that node and each store that said Yes
pub record CanIntend (W : World) (t : ℕ) (nodes : List ℕ) : Type 0 where
  pub sealed : W.disk.stage t ≡ Confirming
  pub confirmed : In (Confirmed t) W.sent
  pub stores : (s : ℕ) → W.disk.got t s ≡ true → has s nodes ≡ true
  pub names : has naming nodes ≡ true

-- a record goes once each node that it lists has acknowledged
pub record CanRemove (W : World) (t : ℕ) (nodes : List ℕ) : Type 0 where
  pub record_is : W.disk.intent t ≡ Some nodes
  pub acked : (m : ℕ) → has m nodes ≡ true → In (Acked t m) W.sent

-- a commit needs no record where it sent no state
pub record CanEndBare (W : World) (t : ℕ) : Type 0 where
  pub sealed : W.disk.stage t ≡ Confirming
  pub confirmed : In (Confirmed t) W.sent
  pub no_record : W.disk.intent t ≡ None
  pub untouched : (s : ℕ) → target (W.disk.plan t) s ≡ false

-- a store prepares what a Prepare sent it, ever, where nothing is prepared and it holds nothing newer
pub record CanKeep (W : World) (t s : ℕ) : Type 0 where
  pub asked : In (Prepare t s) W.sent
  pub free : W.disk.pend s ≡ None
  pub below : (g : Packed) → W.disk.held s ≡ Some g → Below g (state_for (W.disk.plan t))

-- a top that wrote is confirmed with the entry as it is: each listed target said Yes
pub record CanAgree (W : World) (t : ℕ) : Type 0 where
  pub asked : In (Confirm t) W.sent
  pub writes : is_some (W.disk.plan t).writes ≡ true
  pub same : bytes_eq (new_list W.disk t) W.disk.entry.content ≡ true
  pub unlisted : IsUnlisted W.disk t
  pub clear : IsClear W.disk t
  pub locked : undecided W.disk t ≡ true → Locked W.disk t

-- a top that changes nothing is confirmed: it didn't write, and no store that it includes said Yes or is listed
pub record CanPass (W : World) (t : ℕ) : Type 0 where
  pub asked : In (Confirm t) W.sent
  pub plain : (W.disk.plan t).writes ≡ None
  pub none : (s : ℕ) → W.disk.got t s ≡ false
  pub unlisted : NoneIsListed W.disk t
  pub clear : IsClear W.disk t
  pub unconfirmed : undecided W.disk t ≡ true → W.disk.conf t ≡ false

-- a top is confirmed with a new entry, which has a store
pub record CanEnter (W : World) (t : ℕ) : Type 0 where
  pub asked : In (Confirm t) W.sent
  pub free : W.disk.entry_pend ≡ None
  pub other : bytes_eq (new_list W.disk t) W.disk.entry.content ≡ false
  pub stores : (s : ℕ) × (has s (new_list W.disk t) ≡ true)
  pub undone : decided W.disk t ≡ false
  pub unlisted : IsUnlisted W.disk t
  pub locked : undecided W.disk t ≡ true → Locked W.disk t

-- what a node looks at before an effect
abbrev pub Allowed : World → Effect → Type 0
Allowed W (Begin t p) = CanBegin W.disk t p
Allowed W (Take t s) = (W.disk.stage t ≡ Preparing) × In (Prepared t s) W.sent
Allowed W (Seal t) = W.disk.stage t ≡ Preparing
Allowed W (Intend t nodes) = CanIntend W t nodes
Allowed W (Decide t) = (is_some (W.disk.intent t) ≡ true) × (decided W.disk t ≡ false)
Allowed W (Remove t nodes) = CanRemove W t nodes
Allowed W (EndBare t) = CanEndBare W t
Allowed W (Halt t) = ⊤
Allowed W (Keep t s) = CanKeep W t s
Allowed W (Move s h) = (W.disk.pend s ≡ Some h) × In (ToldCommit h.top s) W.sent
Allowed W (Finish s h) = (W.disk.pend s ≡ Some h) × In (ToldCommit h.top s) W.sent × (W.disk.held s ≡ Some h.new)
Allowed W (Drop s h) = (W.disk.pend s ≡ Some h) × In (ToldAbort h.top s) W.sent
Allowed W (Agree t) = CanAgree W t
Allowed W (Pass t) = CanPass W t
Allowed W (Enter t) = CanEnter W t
Allowed W (MoveEntry h) = (W.disk.entry_pend ≡ Some h) × In (ToldCommit h.top naming) W.sent
Allowed W (FinishEntry h) = (W.disk.entry_pend ≡ Some h) × In (ToldCommit h.top naming) W.sent × (W.disk.entry ≡ h.new)
Allowed W (DropEntry h) = (W.disk.entry_pend ≡ Some h) × In (ToldAbort h.top naming) W.sent
Allowed W (Forget r h) = (W.disk.entry_pend ≡ Some h) × In (ToldSerial r naming) W.sent × (W.disk.root h.top ≡ r)
Allowed W (Send m) = MaySend W m

-- each effect of the list is allowed when it comes
abbrev pub Follows : World → List Effect → Type 0
Follows W [] = ⊤
Follows W (e ∷ es) = Allowed W e × Follows (after W e) es

-- the object after a list of effects
abbrev pub run : World → List Effect → World
run W [] = W
run W (e ∷ es) = run (after W e) es

-- what all that was sent means is true
abbrev pub Mail : World → Type 0
Mail W = (m : Message) → In m W.sent → Meaning W.disk m

-- what holds at every moment
pub record Whole (W : World) : Type 0 where
  pub core : Core W.disk
  pub mail : Mail W
