-- What follows with the naming node's half.
use Rattle.std.specs.Prelude.{◌≡◌, ℕ, ◌+◌, List, [], ◌∷◌, map, true, false, Some, None}
use Rattle.arj_law_disk.specs.machine.Effects.{Effect, Locked, Follows, run}
use Rattle.arj_law_disk.specs.machine.Guards.{ArePlain, HasRow, Runs, end_of, IsPresent, MayAgree, MayEnter}
use Rattle.arj_law_disk.specs.machine.Laws.{IsFirst}
use Rattle.arj_law_disk.specs.machine.Named.{Named}
use Rattle.arj_law_disk.specs.machine.Names.{Names, Office, Do}
use Rattle.arj_law_disk.specs.machine.Words.{has}
use Rattle.arj_law_disk.specs.machine.State.{State, Packed, is_idle, undecided, target, state_for, last, Below}

-- Roots as actions have them: a serializing action is its own root, as are plain tops and independent ones.
pub record IsForest (S : State) : Type 0 where
  pub serial : (r : ℕ) → S.serial r ≡ true → S.root r ≡ r
  pub plain : (t : ℕ) → S.serial (S.root t) ≡ false → S.root t ≡ t
  pub idem : (t : ℕ) → S.root (S.root t) ≡ S.root t

-- the naming node's half as a format leaves it
pub record IsFirstNames (N : Names) : Type 0 where
  pub row : (h : ℕ) → N.row h ≡ None
  pub given : (t : ℕ) → N.given t ≡ false
  pub told : (t : ℕ) → N.told t ≡ false
  pub confd : (t : ℕ) → N.confd t ≡ false
  pub asked : (t : ℕ) → N.asked t ≡ false
  pub had : (t i : ℕ) → N.had t i ≡ false
  pub kept : (h : ℕ) → N.kept h ≡ None
  pub answers : N.answers ≡ []

-- so what a format leaves holds together
abbrev pub FirstIsNamed : Type 0
FirstIsNamed = (S : State) (N : Names) → IsFirst S → IsForest S → IsFirstNames N →
    Named (record { world = record { disk = S; sent = [] }; names = N })

-- Effects in which the naming node's half has no part may be done as they are allowed, and leave it as it was; no top is
-- decided by them.
abbrev pub PlainEffectsAreActs : Type 0
PlainEffectsAreActs = (A : Office) (es : List Effect) → Follows A.world es → ArePlain es
    → Runs A (map Do es) × (end_of A (map Do es) ≡ record { world = run A.world es; names = A.names })
    × ((run A.world es).disk.tops ≡ A.world.disk.tops)

-- The book of locks: what a confirmation counts on, from the naming node's half and the stores, with the next version; and where it
-- prepares a new entry, no other one is prepared, so that it is never refused.
pub record IsBooked (A : Office) : Type 0 where
  pub agrees : (t : ℕ) → MayAgree A t → undecided A.world.disk t ≡ true → Locked A.world.disk t
  pub enters : (t : ℕ) → MayEnter A t → undecided A.world.disk t ≡ true → Locked A.world.disk t
  pub prepares : (t : ℕ) → MayEnter A t → A.world.disk.entry_pend ≡ None

-- A store refuses a state as not above what it holds only if a grant that the top counts on is of an earlier incarnation of
-- the naming node, so that it has restarted since; for a changed state, as long as the servers give the next version.
abbrev pub OldNeedsRestart : Office → Type 0
OldNeedsRestart A = (t s : ℕ) (g : Packed) → undecided A.world.disk t ≡ true → target (A.world.disk.plan t) s ≡ true
    → ((w : Packed) → (A.world.disk.plan t).writes ≡ Some w → w.version ≡ (last A.world.disk).version + 1)
    → A.world.disk.held s ≡ Some g → (Below g (state_for (A.world.disk.plan t)) → ⊥) → IsPresent A.world.disk A.names t → ⊥

-- While a working top has the write lock, the entry stays as it is; and a store of it where the object isn't in doubt holds
-- the last state, and nobody of another root is confirmed with an open outcome.
abbrev pub HoldsWrite : Office → ℕ → Type 0
HoldsWrite A t = (A.world.disk.serial t ≡ false) × (is_idle (A.world.disk.stage t) ≡ true) × HasRow A.names t 2

-- who holds the write lock loads the last state from a listed store with nothing prepared, and no confirmed top's outcome is open
abbrev pub LoadsTheLast : Office → Type 0
LoadsTheLast A = (t s : ℕ) (g : Packed) → HoldsWrite A t → has s A.world.disk.entry.content ≡ true → A.world.disk.pend s ≡ None →
    A.world.disk.held s ≡ Some g
    → (g ≡ last A.world.disk) × ((z : ℕ) → A.world.disk.conf z ≡ true → undecided A.world.disk z ≡ true → ⊥)
