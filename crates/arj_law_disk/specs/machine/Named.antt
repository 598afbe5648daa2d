-- What holds of the naming node's half at every moment, in groups by what they read.
use Rattle.std.specs.Prelude.{◌≡◌, ◌⊎◌, ℕ, ◌+◌, ◌≤◌, List, Bool, true, false, Option, Some, is_some}
use Rattle.arj_law_disk.specs.machine.Effects.{Whole}
use Rattle.arj_law_disk.specs.machine.Guards.{HasRow, IsUntold, IsPresent, HasPart}
use Rattle.arj_law_disk.specs.machine.Messages.{Message, Acked, IsOver}
use Rattle.arj_law_disk.specs.machine.Names.{Names, Office, Kept, Answer, Bound, Loaded, load_of}
use Rattle.arj_law_disk.specs.machine.State.{State, Packed, Hold, naming, is_idle, is_gone, decided, undecided, lists, last, last_entry}
use Rattle.arj_law_disk.specs.machine.State.{Known, IsNew, Listed}
use Rattle.arj_law_disk.specs.machine.Words.{has, In}

-- one action is the other, or its root
abbrev pub Related : (ℕ → ℕ) → ℕ → ℕ → Type 0
Related root h k = (h ≡ k) ⊎ (root h ≡ k) ⊎ (root k ≡ h)

-- Roots: a serializing action is its own root, as are plain tops; and none of a root's outcomes is open beside another.
abbrev pub Roots : State → Type 0
Roots S = record {
  serial : (r : ℕ) → S.serial r ≡ true → S.root r ≡ r;
  plain : (t : ℕ) → S.serial (S.root t) ≡ false → S.root t ≡ t;
  idem : (t : ℕ) → S.root (S.root t) ≡ S.root t;
  tops : (t : ℕ) → S.begun t ≡ true → S.serial t ≡ false;
  one : (t z : ℕ) → undecided S t ≡ true → undecided S z ≡ true → S.root t ≡ S.root z → t ≡ z;
}

-- Locks: those that conflict are related; one that was given back stands alone; and each prepared entry is guarded, that of a
-- top that includes a store by the write lock, or by one that was given back.
abbrev pub Rows : State → Names → Type 0
Rows S N = record {
  apart : (h k m n : ℕ) → N.row h ≡ Some m → N.row k ≡ Some n → 2 ≤ m + n → Related S.root h k;
  alone : (t h m : ℕ) → N.given t ≡ true → N.row h ≡ Some m → h ≡ t;
  dead : (t : ℕ) → N.given t ≡ true → N.live ≡ false;
  given : (t : ℕ) → N.given t ≡ true → HasRow N t 1 × (S.begun t ≡ true) × (N.had t N.inc ≡ false);
  guard : (h : Hold) → S.entry_pend ≡ Some h → HasRow N h.top 1 × (N.told h.top ≡ false) × (N.confd h.top ≡ true);
  adds : (h : Hold) (s : ℕ) → S.entry_pend ≡ Some h → has s h.new.content ≡ true → has s S.entry.content ≡ false → HasRow N h.top 2;
  out : (h : Hold) (s : ℕ) → S.entry_pend ≡ Some h → decided S h.top ≡ false → has s (S.plan h.top).joins ≡ true → S.got h.top s ≡ true →
      has s S.entry.content ≡ false;
  since : (h : Hold) (s : ℕ) → S.entry_pend ≡ Some h → has s (S.plan h.top).joins ≡ true → (N.given h.top ≡ true) ⊎ HasRow N h.top 2;
  asked : (t : ℕ) → N.asked t ≡ true → IsUntold S N t → HasRow N t 2;
}

-- a root's locks: it is over, or has one, or a committed top of it that wasn't told of is still to pass one on
abbrev pub IsHeld : State → Names → ℕ → Type 0
IsHeld S N r = IsOver S r ⊎ HasRow N r 0
    ⊎ ((y : ℕ) × (S.root y ≡ r) × ((decided S y ≡ true) ⊎ (S.bare y ≡ true)) × (N.told y ≡ false) × (N.had y N.inc ≡ true))

-- Grants: of the past or the present; one of the present stands as a lock; who was confirmed with one was so in its
-- incarnation; and a decided top with one is known to the naming node's acknowledgement.
abbrev pub Grants : State → Names → List Message → Type 0
Grants S N sent = record {
  past : (t i : ℕ) → N.had t i ≡ true → i ≤ N.inc;
  row : (t : ℕ) → S.serial t ≡ false → N.had t N.inc ≡ true → IsUntold S N t → HasRow N t 0 × (N.given t ≡ false);
  root : (r : ℕ) → S.serial r ≡ true → N.had r N.inc ≡ true → N.told r ≡ false → IsHeld S N r;
  conf : (t : ℕ) → (S.conf t ≡ true) ⊎ (S.light t ≡ true) → N.had t N.inc ≡ true → N.confd t ≡ true;
  part : (t : ℕ) → (S.conf t ≡ true) ⊎ (S.light t ≡ true) → HasPart (S.plan t) →
      (i : ℕ) × ((N.had t i ≡ true) ⊎ (N.had (S.root t) i ≡ true)) × (i ≡ N.inc → N.confd t ≡ true);
  yes : (t : ℕ) → N.confd t ≡ true → (S.begun t ≡ true) × (undecided S t ≡ true → (S.conf t ≡ true) ⊎ (S.light t ≡ true));
  listed : (t : ℕ) → decided S t ≡ true → N.had t N.inc ≡ true → N.told t ≡ false → lists S t naming ≡ true;
  acked : (t : ℕ) → In (Acked t naming) sent → (N.told t ≡ true) ⊎ (N.had t N.inc ≡ false);
  told : (t : ℕ) → N.told t ≡ true → (is_gone (S.stage t) ≡ true) × (undecided S t ≡ false) × (S.serial t ≡ true → IsOver S t);
}

-- each listed store is in the list, or a decided top of the root is about to take it out
pub record IsLeaving (root : ℕ → ℕ) (done : ℕ → Bool) (prepared : Option Hold) (r s : ℕ) : Type 0 where
  pub by_entry : Hold
  pub there : prepared ≡ Some by_entry
  pub done_by : done by_entry.top ≡ true
  pub of_root : root by_entry.top ≡ r
  pub lacks : has s by_entry.new.content ≡ false

-- so it is of each listed store
abbrev pub IsWide : State → ℕ → List ℕ → Type 0
IsWide S r l = (s : ℕ) → Listed S s → (has s l ≡ true) ⊎ IsLeaving S.root (decided S) S.entry_pend r s

-- Lists that are kept, and those of plans, name each listed store; what a confirmed top without effect marks isn't listed.
abbrev pub Lists : State → Names → Type 0
Lists S N = record {
  had : (h : ℕ) (k : Kept) → N.kept h ≡ Some k → N.had h k.since ≡ true;
  kept : (h : ℕ) (k : Kept) → N.kept h ≡ Some k → IsPresent S N h → IsUntold S N h → IsOver S (S.root h) ⊎ IsWide S (S.root h) k.list;
  plan : (t : ℕ) → undecided S t ≡ true → is_some (S.plan t).writes ≡ true →
      (i : ℕ) × ((N.had t i ≡ true) ⊎ (N.had (S.root t) i ≡ true)) × (IsPresent S N t → IsWide S (S.root t) (S.plan t).list);
  light : (t s : ℕ) → S.light t ≡ true → undecided S t ≡ true → IsPresent S N t → has s (S.plan t).joins ≡ true → Listed S s → ⊥;
}

-- a state that was loaded for an include is the last one, or its root has that; and no confirmed top of another root is open
abbrev pub IsLoad : State → ℕ → Packed → Type 0
IsLoad S t g = (last S ≡ load_of S t g) × ((z : ℕ) → S.conf z ≡ true → undecided S z ≡ true → S.root z ≡ S.root t)

-- What an answer means while its top works.
abbrev pub AnswerMeans : State → Names → Answer → Type 0
AnswerMeans S N (Bound t i b l) = (S.serial t ≡ false) × (i ≤ N.inc) × (is_idle (S.stage t) ≡ true → i ≡ N.inc → IsUntold S N t
    → HasRow N t 0 × (N.given t ≡ false) × IsWide S (S.root t) l
    × (b ≡ true → (N.asked t ≡ true) × ((s : ℕ) → has s l ≡ true → has s (last_entry S).content ≡ true)))
AnswerMeans S N (Loaded t i g) = (S.serial t ≡ false) × (i ≤ N.inc) × Known S g
    × (is_idle (S.stage t) ≡ true → i ≡ N.inc → IsUntold S N t → (N.asked t ≡ true) × IsLoad S t g)

-- What a commit counts on that has begun: its changed state is new; what it includes was bound
-- in an incarnation, and as long as that is the present one, the loaded state is the last, and nobody else is confirmed.
abbrev pub Plans : State → Names → Type 0
Plans S N = record {
  writer : (t : ℕ) (w : Packed) → S.begun t ≡ true → (S.plan t).writes ≡ Some w → (w.writer ≡ t) × IsNew S t;
  asked : (t s : ℕ) → S.begun t ≡ true → has s (S.plan t).joins ≡ true →
      (i : ℕ) × (N.had t i ≡ true) × (i ≡ N.inc → IsUntold S N t → N.asked t ≡ true);
  loaded : (t s : ℕ) → undecided S t ≡ true → has s (S.plan t).joins ≡ true → IsPresent S N t →
      ((S.plan t).loaded ≡ last S) × ((z : ℕ) → S.conf z ≡ true → undecided S z ≡ true → z ≡ t);
}

-- what holds of the disks and the naming node's half
pub record Named (A : Office) : Type 0 where
  pub whole : Whole A.world
  pub roots : Roots A.world.disk
  pub rows : Rows A.world.disk A.names
  pub grants : Grants A.world.disk A.names A.world.sent
  pub lists : Lists A.world.disk A.names
  pub answers : (a : Answer) → In a A.names.answers → AnswerMeans A.world.disk A.names a
  pub plans : Plans A.world.disk A.names
