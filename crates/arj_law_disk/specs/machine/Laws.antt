-- What follows from what holds at every moment: clean disks, exclusion in time, one outcome.
use Rattle.std.specs.Prelude.{◌≡◌, ◌⊎◌, ℕ, ◌+◌, ◌<◌, ◌≤◌, List, [], ◌∷◌, take, true, false, ◌&&◌, not, Some, None, is_some, if◌then◌else◌}
use Rattle.std.specs.Prelude.{bytes_eq}
use Rattle.arj_law_disk.specs.machine.Effects.{World, Effect, Move, Finish, Drop, MoveEntry, FinishEntry, DropEntry, Forget, Allowed}
use Rattle.arj_law_disk.specs.machine.Effects.{Follows, Whole, run}
use Rattle.arj_law_disk.specs.machine.State.{State, Packed, Hold, Done, Idle, decided, target, state_for, list_after, entry_in, last}
use Rattle.arj_law_disk.specs.machine.State.{last_entry, KnownIn, IsPast, Below, is_latest, IsExcused}
use Rattle.arj_law_disk.specs.machine.Words.{has, In}

-- The object as it begins: each listed store holds the first state, others may hold an older one, and nothing has happened.
pub record IsFirst (S : State) : Type 0 where
  pub idle : (t : ℕ) → S.stage t ≡ Idle
  pub unbegun : (t : ℕ) → S.begun t ≡ false
  pub none_got : (t s : ℕ) → S.got t s ≡ false
  pub no_record : (t : ℕ) → S.intent t ≡ None
  pub none_bare : (t : ℕ) → S.bare t ≡ false
  pub undecided : S.tops ≡ []
  pub free : (s : ℕ) → S.pend s ≡ None
  pub none_went : (t s : ℕ) → S.went t s ≡ false
  pub entry_free : S.entry_pend ≡ None
  pub none_conf : (t : ℕ) → S.conf t ≡ false
  pub none_light : (t : ℕ) → S.light t ≡ false
  pub entry : S.entry ≡ S.first_entry
  pub stores : (s : ℕ) × (has s S.entry.content ≡ true)
  pub held : (s : ℕ) → has s S.entry.content ≡ true → S.held s ≡ Some S.first
  pub no_other : (s : ℕ) (g : Packed) → S.held s ≡ Some g → In g (S.first ∷ S.past)
  pub past : IsPast S.first S.past

-- what has so begun is whole
abbrev pub FirstIsWhole : Type 0
FirstIsWhole = (S : State) → IsFirst S → Whole (record { disk = S; sent = [] })

-- a list of effects, stopped anywhere
abbrev pub StopsStayWhole : Type 0
StopsStayWhole = (W : World) (es : List Effect) (n : ℕ) → Follows W es → Whole W → Whole (run W (take n es))

-- An entry that isn't in doubt is the journal's, and each store of it that isn't in doubt holds the last state.
pub record IsClean (S : State) : Type 0 where
  pub entry : S.entry_pend ≡ None → S.entry ≡ last_entry S
  pub stores : S.entry_pend ≡ None → (s : ℕ) → has s S.entry.content ≡ true → S.pend s ≡ None → S.held s ≡ Some (last S)

-- Each store that the held entry has, of the newest decision that counts: it holds the last state, or has it prepared for
-- that top, or is about to be taken out of the entry.
abbrev pub IsExcludedInTime : State → ℕ → ℕ → Type 0
IsExcludedInTime S t s = (S.held s ≡ Some (last S)) ⊎ ((h : Hold) × (S.pend s ≡ Some h) × (h.top ≡ t) × (h.new ≡ last S)) ⊎ IsExcused S t s

-- so it is of the latest top that wrote, and of each store that the entry lists
abbrev pub AreExcludedInTime : State → Type 0
AreExcludedInTime S = (t s : ℕ) → is_latest S t ≡ true → is_some (S.plan t).writes ≡ true → has s S.entry.content ≡ true →
    IsExcludedInTime S t s

-- One outcome: what is committed anywhere is decided; what a decided top has prepared as a participant is aborted only
-- after it was committed there; and its entry never is.
pub record HasOneOutcome (W : World) : Type 0 where
  pub moved : (s : ℕ) (h : Hold) → Allowed W (Move s h) → decided W.disk h.top ≡ true
  pub finished : (s : ℕ) (h : Hold) → Allowed W (Finish s h) → decided W.disk h.top ≡ true
  pub dropped : (s : ℕ) (h : Hold) → Allowed W (Drop s h) → decided W.disk h.top ≡ true → W.disk.got h.top s ≡ true →
      W.disk.went h.top s ≡ true
  pub entry_moved : (h : Hold) → Allowed W (MoveEntry h) → decided W.disk h.top ≡ true
  pub entry_finished : (h : Hold) → Allowed W (FinishEntry h) → decided W.disk h.top ≡ true
  pub entry_dropped : (h : Hold) → Allowed W (DropEntry h) → decided W.disk h.top ≡ false
  pub entry_forgotten : (r : ℕ) (h : Hold) → Allowed W (Forget r h) → decided W.disk h.top ≡ false

-- the number of decided tops that wrote
abbrev pub writes_in : List Done → ℕ
writes_in [] = 0
writes_in (d ∷ ds) = writes_in ds + (if is_some d.plan.writes then 1 else 0)

-- the number of decided tops that changed the list
abbrev pub changes_in : Packed → List Done → ℕ
changes_in first [] = 0
changes_in first (d ∷ ds) = changes_in first ds
    + (if d.counts && not (bytes_eq (list_after d.plan d.got (entry_in first ds).content) (entry_in first ds).content) then 1 else 0)

-- versions count what was decided
pub record VersionsCount (S : State) : Type 0 where
  pub state : (last S).version ≡ S.first.version + writes_in S.tops
  pub entry : (last_entry S).version ≡ S.first_entry.version + changes_in S.first_entry S.tops

-- A changed state is one version above a known one.
pub record BasedIn (first : Packed) (tops : List Done) (w : Packed) : Type 0 where
  pub base : Packed
  pub known : KnownIn first tops base
  pub above : w.version ≡ base.version + 1

-- so it is of the decided tops of a state
abbrev pub IsBased : State → Packed → Type 0
IsBased S w = BasedIn S.first S.tops w

-- An answer that a store holds a version not below the one sent names one that was committed, and not the first; as long as
-- no older state was loaded.
abbrev pub OldIsCommitted : State → Type 0
OldIsCommitted S = (t s : ℕ) (g : Packed) → S.begun t ≡ true → target (S.plan t) s ≡ true →
    ((w : Packed) → (S.plan t).writes ≡ Some w → IsBased S w)
    → (In (S.plan t).loaded S.past → ⊥) → S.held s ≡ Some g → (Below g (state_for (S.plan t)) → ⊥) →
    (S.first.version < g.version) × (g.version ≤ S.first.version + writes_in S.tops)
