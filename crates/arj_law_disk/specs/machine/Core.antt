-- What holds of one object at every moment: the invariant of disks, records and decisions, in groups by what they read.
use Rattle.std.specs.Prelude.{◌≡◌, ◌⊎◌, ℕ, ◌+◌, List, [], ◌∷◌, true, false, Option, Some, None, is_some, ⊤}
use Rattle.arj_law_disk.specs.machine.State.{State, Packed, Hold, Done, naming, is_open, is_sealed, is_idle, is_gone, decided, undecided}
use Rattle.arj_law_disk.specs.machine.State.{lists, target, state_for, hold, entry_after, last_in, last, last_entry, effective}
use Rattle.arj_law_disk.specs.machine.State.{effective_entry, Known, IsPast, Below, is_latest, Listed, IsExcused}
use Rattle.arj_law_disk.specs.machine.Words.{has, In}

-- Coordinators: who was confirmed or has a record has ended its prepare step; who is decided was confirmed; a record lists
-- the naming node and each store that had prepared; and what concerns a top's part in the object begins with its commit.
abbrev pub Coordinators : State → Type 0
Coordinators S = record {
  conf_sealed : (t : ℕ) → S.conf t ≡ true → is_sealed (S.stage t) ≡ true;
  light_sealed : (t : ℕ) → S.light t ≡ true → is_sealed (S.stage t) ≡ true;
  decided_taken : (t : ℕ) → decided S t ≡ true → (S.conf t ≡ true) ⊎ (S.light t ≡ true);
  decided_closed : (t : ℕ) → decided S t ≡ true → is_gone (S.stage t) ≡ true;
  record_sealed : (t : ℕ) → is_some (S.intent t) ≡ true → is_sealed (S.stage t) ≡ true;
  record_taken : (t : ℕ) → is_some (S.intent t) ≡ true → (S.conf t ≡ true) ⊎ (S.light t ≡ true);
  record_lists : (t : ℕ) (nodes : List ℕ) → S.intent t ≡ Some nodes → (s : ℕ) → S.got t s ≡ true → has s nodes ≡ true;
  record_names : (t : ℕ) (nodes : List ℕ) → S.intent t ≡ Some nodes → has naming nodes ≡ true;
  got_target : (t s : ℕ) → S.got t s ≡ true → target (S.plan t) s ≡ true;
}

-- Nothing speaks of a top before its commit began.
abbrev pub Fresh : State → Type 0
Fresh S = record {
  begun : (t : ℕ) → S.begun t ≡ true → is_idle (S.stage t) ≡ false;
  open_begun : (t : ℕ) → is_open (S.stage t) ≡ true → S.begun t ≡ true;
  conf : (t : ℕ) → S.conf t ≡ true → S.begun t ≡ true;
  light : (t : ℕ) → S.light t ≡ true → S.begun t ≡ true;
  got : (t s : ℕ) → S.got t s ≡ true → S.begun t ≡ true;
  pend : (s : ℕ) (h : Hold) → S.pend s ≡ Some h → S.begun h.top ≡ true;
  went : (t s : ℕ) → S.went t s ≡ true → S.begun t ≡ true;
  entry : (h : Hold) → S.entry_pend ≡ Some h → S.begun h.top ≡ true;
}

-- A commit without a record: nothing of the object was sent.
abbrev pub Bare : State → Type 0
Bare S = record {
  gone : (t : ℕ) → S.bare t ≡ true → is_gone (S.stage t) ≡ true;
  no_record : (t : ℕ) → S.bare t ≡ true → S.intent t ≡ None;
  undone : (t : ℕ) → S.bare t ≡ true → decided S t ≡ false;
  untouched : (t : ℕ) → S.bare t ≡ true → (s : ℕ) → target (S.plan t) s ≡ false;
  taken : (t : ℕ) → S.bare t ≡ true → (S.conf t ≡ true) ⊎ (S.light t ≡ true);
}

-- What a store has prepared is the state of a top that sends one there, and not below what it holds.
abbrev pub Forms : State → Type 0
Forms S = record {
  state : (s : ℕ) (h : Hold) → S.pend s ≡ Some h → h.new ≡ state_for (S.plan h.top);
  sent : (s : ℕ) (h : Hold) → S.pend s ≡ Some h → target (S.plan h.top) s ≡ true;
  below : (s : ℕ) (h : Hold) (g : Packed) → S.pend s ≡ Some h → S.held s ≡ Some g → Below g h.new;
}

-- versions rise by one with each decided top that writes
abbrev pub Chain : Packed → List Done → Type 0
Chain first [] = ⊤
Chain first (d ∷ ds) = ((w : Packed) → d.plan.writes ≡ Some w → w.version ≡ (last_in first ds).version + 1) × Chain first ds

-- Every state about was the last one at some time, or is older than the first.
abbrev pub History : State → Type 0
History S = record {
  held : (s : ℕ) (g : Packed) → S.held s ≡ Some g → Known S g;
  done : (t s : ℕ) → decided S t ≡ true → target (S.plan t) s ≡ true → Known S (state_for (S.plan t));
  loaded : (t s : ℕ) → S.begun t ≡ true → has s (S.plan t).joins ≡ true → Known S (S.plan t).loaded;
  chain : Chain S.first S.tops;
  past : IsPast S.first S.past;
}

-- The journal's decisions: each has its top's plan and answers; one that doesn't count didn't write; one that does was
-- confirmed as such.
abbrev pub Journal : State → Type 0
Journal S = record {
  plan : (d : Done) → In d S.tops → d.plan ≡ S.plan d.top;
  got : (d : Done) → In d S.tops → d.got ≡ S.got d.top;
  plain : (d : Done) → In d S.tops → d.counts ≡ false → d.plan.writes ≡ None;
  counted : (d : Done) → In d S.tops → d.counts ≡ true → S.conf d.top ≡ true;
}

-- a store holds the top's state, or a later one
abbrev pub HasReached : Option Packed → Packed → Type 0
HasReached held state = (now : Packed) × (held ≡ Some now) × Below state now

-- A store whose Yes was taken keeps what it prepared, until the top's outcome has come to it.
abbrev pub Firm : State → Type 0
Firm S = record {
  kept : (t s : ℕ) → undecided S t ≡ true → S.got t s ≡ true → S.pend s ≡ Some (hold S t);
  done : (t s : ℕ) → decided S t ≡ true → S.got t s ≡ true → (S.pend s ≡ Some (hold S t)) ⊎ (S.went t s ≡ true);
  listed : (t s : ℕ) → decided S t ≡ true → S.got t s ≡ true → (lists S t s ≡ true) ⊎ (S.went t s ≡ true);
  went : (t s : ℕ) → S.went t s ≡ true → (decided S t ≡ true) × HasReached (S.held s) (state_for (S.plan t));
}

-- A confirmed top that changes nothing: it didn't write, and no store that it includes has prepared.
abbrev pub Light : State → Type 0
Light S = record {
  plain : (t : ℕ) → S.light t ≡ true → (S.plan t).writes ≡ None;
  none : (t s : ℕ) → S.light t ≡ true → S.got t s ≡ false;
  other : (t : ℕ) → S.light t ≡ true → S.conf t ≡ false;
  late : (t s : ℕ) (h : Hold) → S.light t ≡ true → undecided S t ≡ true → S.pend s ≡ Some h → h.top ≡ t →
      has s (last_entry S).content ≡ true → S.held s ≡ Some (last S);
}

-- Of the confirmed tops whose outcome is open at most one counts for the object. It writes the version after the last one,
-- and includes stores with the last state.
abbrev pub Alone : State → Type 0
Alone S = record {
  one : (t z : ℕ) → S.conf t ≡ true → undecided S t ≡ true → S.conf z ≡ true → undecided S z ≡ true → t ≡ z;
  next : (t : ℕ) (w : Packed) → S.conf t ≡ true → undecided S t ≡ true → (S.plan t).writes ≡ Some w → w.version ≡ (last S).version + 1;
  loaded : (t s : ℕ) → S.conf t ≡ true → undecided S t ≡ true → has s (S.plan t).joins ≡ true → (S.plan t).loaded ≡ last S;
}

-- a confirmed top whose outcome is open, or the newest decided one that counts
abbrev pub IsActive : State → ℕ → Type 0
IsActive S t = (undecided S t ≡ true) ⊎ (is_latest S t ≡ true)

-- Each listed store has prepared for such a top, if it wrote, or is about to leave the list; and the entry that will be is
-- prepared, exactly where it differs. One that didn't write includes a store, and its entry is prepared.
abbrev pub Covered : State → Type 0
Covered S = record {
  stores : (t s : ℕ) → S.conf t ≡ true → IsActive S t → is_some (S.plan t).writes ≡ true → Listed S s →
      (S.got t s ≡ true) ⊎ IsExcused S t s;
  own : (t : ℕ) (h : Hold) → S.conf t ≡ true → undecided S t ≡ true → S.entry_pend ≡ Some h → h.top ≡ t →
      h.new ≡ entry_after t (S.plan t) (S.got t) (last_entry S);
  rest : (t : ℕ) → S.conf t ≡ true → undecided S t ≡ true → ((h : Hold) → S.entry_pend ≡ Some h → h.top ≡ t → ⊥) →
      entry_after t (S.plan t) (S.got t) (last_entry S) ≡ last_entry S;
  joins : (t s : ℕ) → S.conf t ≡ true → undecided S t ≡ true → has s (S.plan t).joins ≡ true → S.got t s ≡ true →
      (h : Hold) × (S.entry_pend ≡ Some h) × (h.top ≡ t);
  plain : (t : ℕ) → S.conf t ≡ true → undecided S t ≡ true → (S.plan t).writes ≡ None →
      ((s : ℕ) × (has s (S.plan t).joins ≡ true)) × ((h : Hold) × (S.entry_pend ≡ Some h) × (h.top ≡ t));
}

-- Whose entry is prepared: one that was confirmed, or that is dead; and the entry's new stores had prepared.
abbrev pub Pending : State → Type 0
Pending S = record {
  sealed : (h : Hold) → S.entry_pend ≡ Some h → is_sealed (S.stage h.top) ≡ true;
  open_conf : (h : Hold) → S.entry_pend ≡ Some h → undecided S h.top ≡ true → S.conf h.top ≡ true;
  done_conf : (h : Hold) → S.entry_pend ≡ Some h → decided S h.top ≡ true → S.conf h.top ≡ true;
  listed : (h : Hold) → S.entry_pend ≡ Some h → decided S h.top ≡ true → lists S h.top naming ≡ true;
  new : (h : Hold) (s : ℕ) → S.entry_pend ≡ Some h → has s h.new.content ≡ true → (has s S.entry.content ≡ true) ⊎ (S.got h.top s ≡ true);
  stores : (h : Hold) → S.entry_pend ≡ Some h → (s : ℕ) × (has s h.new.content ≡ true);
  held : (s : ℕ) × (has s S.entry.content ≡ true);
}

-- Nothing is lost and nothing is half: the entry that will be is the journal's, and each store of it will hold the last
-- state; and a decided top's late copy there is told to commit, or is not needed.
abbrev pub Effective : State → Type 0
Effective S = record {
  entry : effective_entry S ≡ last_entry S;
  store : (s : ℕ) → has s (last_entry S).content ≡ true → effective S s ≡ Some (last S);
  late : (s : ℕ) (h : Hold) → has s (last_entry S).content ≡ true → S.pend s ≡ Some h → decided S h.top ≡ true →
      ((lists S h.top s ≡ true) × (S.got h.top s ≡ true)) ⊎ (S.held s ≡ Some (last S));
}

-- what holds of the disks, the records and the decisions
pub record Core (S : State) : Type 0 where
  pub coordinators : Coordinators S
  pub fresh : Fresh S
  pub bare : Bare S
  pub forms : Forms S
  pub history : History S
  pub journal : Journal S
  pub firm : Firm S
  pub light : Light S
  pub alone : Alone S
  pub covered : Covered S
  pub pending : Pending S
  pub effective : Effective S
