-- A top whose commit machine runs, seen as the disk machine has it.
use Rattle.std.specs.Prelude.{◌≡◌, ℕ, true, false, not, ◌&&◌, ◌==◌, List, []}
use Rattle.arj_protocol.specs.Commit as commit
use Rattle.arj_protocol.specs.Commit.{is_marked, marks_store, marks_stores, targets_of}
use Rattle.arj_protocol.specs.Effect.{Pair}
use Rattle.arj_protocol.specs.Order as order
use Rattle.arj_law_disk.specs.machine.Core.{Fresh}
use Rattle.arj_law_disk.specs.machine.Effects.{World, Effect, CanBegin, Follows, run}
use Rattle.arj_law_disk.specs.machine.Guards.{AreOnlyOf, only_begins}
use Rattle.arj_law_disk.specs.machine.Messages as mail
use Rattle.arj_law_disk.specs.machine.State.{State, Preparing, Confirming, target, undecided}
use Rattle.arj_law_disk.specs.machine.Words.{In}
use Rattle.arj_law_disk_view.specs.view.Stores.{SeesStore}
use Rattle.arj_law_disk_view.specs.view.Entries.{SeesEntry}
use Rattle.arj_law_disk_view.specs.view.Plans.{IsTidy, plan_at}

-- The prepare step runs: the machine has the plan and the stores that said Yes; marked are the targets that answered
-- otherwise, and who hasn't answered didn't say Yes.
pub record SeesPreparing (x : ℕ) (S : State) (t : ℕ) (p : commit.Plan) (left : List ℕ) : Type 0 where
  pub stage : S.stage t ≡ Preparing
  pub begun : S.begun t ≡ true
  pub plan : S.plan t ≡ plan_at x p
  pub tidy : IsTidy p
  pub got : (s : ℕ) → target (plan_at x p) s ≡ true → S.got t s ≡ order.has p.prepared s
  pub marks : (s : ℕ) → is_marked x s p ≡ (target (plan_at x p) s && (not (order.has p.prepared s) && not (order.has left s)))
  pub apart : (s : ℕ) → order.has left s ≡ true → order.has p.prepared s ≡ false

-- The prepare step has ended: marked are the targets that didn't say Yes.
pub record SeesConfirming (x : ℕ) (S : State) (t : ℕ) (p : commit.Plan) : Type 0 where
  pub stage : S.stage t ≡ Confirming
  pub begun : S.begun t ≡ true
  pub plan : S.plan t ≡ plan_at x p
  pub tidy : IsTidy p
  pub got : (s : ℕ) → target (plan_at x p) s ≡ true → S.got t s ≡ order.has p.prepared s
  pub marks : (s : ℕ) → is_marked x s p ≡ (target (plan_at x p) s && not (order.has p.prepared s))

-- what other tops have of stages and plans stays as it was
pub record OnlyTop (t : ℕ) (W V : World) : Type 0 where
  pub rest : V.disk ≡ record W.disk { stage = V.disk.stage; plan = V.disk.plan; begun = V.disk.begun; got = V.disk.got }
  pub sent : V.sent ≡ W.sent
  pub plans : (z : ℕ) → W.disk.begun z ≡ true → (V.disk.begun z ≡ true) × (V.disk.plan z ≡ W.disk.plan z)
  pub stages : (z : ℕ) → (z == t) ≡ false → V.disk.stage z ≡ W.disk.stage z
  pub starts : (z : ℕ) → (z == t) ≡ false → V.disk.begun z ≡ W.disk.begun z
  pub texts : (z : ℕ) → (z == t) ≡ false → V.disk.plan z ≡ W.disk.plan z
  pub gots : (z : ℕ) → (z == t) ≡ false → V.disk.got z ≡ W.disk.got z
  pub outcomes : (z : ℕ) → W.disk.begun z ≡ true → undecided V.disk z ≡ true → undecided W.disk z ≡ true

-- The machine goes to a state of which this holds. Naming's half has no part but in the beginning of the top's commit.
pub record TopGoes (t : ℕ) (Q : State → Type 0) (W : World) : Type 0 where
  pub effects : List Effect
  pub allowed : Follows W effects
  pub own : AreOnlyOf (only_begins t) effects
  pub there : Q (run W effects).disk
  pub only : OnlyTop t W (run W effects)

-- ---- what holds of a prepare step

-- a plan that nobody answered so far
pub record IsUnanswered (p : commit.Plan) : Type 0 where
  pub prepared : p.prepared ≡ []
  pub excluded : p.excluded ≡ []

-- the prepare step begins with all targets
abbrev pub PreparesBegin : Type 0
PreparesBegin = (x : ℕ) (W : World) (t : ℕ) (p : commit.Plan) (nodes : List ℕ) → Fresh W.disk → CanBegin W.disk t (plan_at x p) → IsTidy p →
    IsUnanswered p
    → TopGoes t (λ S. SeesPreparing x S t (commit.further nodes p) (targets_of p)) W

-- a Yes is taken
abbrev pub YesIsTaken : Type 0
YesIsTaken = (x : ℕ) (W : World) (t s : ℕ) (p : commit.Plan) (left : List ℕ) → SeesPreparing x W.disk t p left → order.has left s ≡ true
    → (target (plan_at x p) s ≡ true → In (mail.Prepared t s) W.sent)
    → TopGoes t (λ S. SeesPreparing x S t (record p { prepared = order.with_number s p.prepared }) (order.without_number s left)) W

-- a store that is in doubt is marked, and so are all that are given up
abbrev pub DoubtIsMarked : Type 0
DoubtIsMarked = (x : ℕ) (S : State) (t s : ℕ) (p : commit.Plan) (left : List ℕ) → SeesPreparing x S t p left → order.has left s ≡ true
    → SeesPreparing x S t (marks_store s p) (order.without_number s left)

-- all stores that are given up are marked
abbrev pub SilentAreMarked : Type 0
SilentAreMarked = (x : ℕ) (S : State) (t : ℕ) (p : commit.Plan) (left : List ℕ) → SeesPreparing x S t p left →
    SeesPreparing x S t (marks_stores left p) []

-- with the last answer the step ends
abbrev pub PreparesEnd : Type 0
PreparesEnd = (x : ℕ) (W : World) (t : ℕ) (p : commit.Plan) → SeesPreparing x W.disk t p [] → TopGoes t (λ S. SeesConfirming x S t p) W

-- the other places are seen as they were
abbrev pub StoresStayByTop : Type 0
StoresStayByTop = (x s t : ℕ) (d : Pair) (W V : World) → OnlyTop t W V → SeesStore x s d W.disk → SeesStore x s d V.disk

-- the entry is seen as it was
abbrev pub EntryStaysByTop : Type 0
EntryStaysByTop = (x t : ℕ) (d : Pair) (W V : World) → OnlyTop t W V → SeesEntry x d W.disk → SeesEntry x d V.disk
