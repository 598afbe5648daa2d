-- What a coordinator does to its own actions, in the machine: they are committed, aborted, at their commit, decided.
use Rattle.std.specs.Prelude.{◌≡◌, ◌≢◌, ◌≤◌, ◌+◌, ℕ, true, false, Some, is_some}
use Rattle.arj_protocol.specs.Words.{Uid, End}
use Rattle.arj_protocol.specs.Words.ending
use Rattle.arj_protocol.specs.Words.kind
use Rattle.arj_protocol.specs.Commit.{Machine, plan_of}
use Rattle.arj_protocol.specs.Asking.{commits_in}
use Rattle.arj_protocol.specs.Coord.{Coord, Doing, Idle, Committing, doing_of}
use Rattle.arj_protocol.specs.Ending.{ended}
use Rattle.arj_protocol.specs.Step.{is_committing_now}
use Rattle.arj_protocol.specs.Tree.{Branch, Tree, branch_of, has_open_child}
use Rattle.arj_law_lock.specs.machine.Actions.{Act, In, Root, root, same}
use Rattle.arj_law_lock.specs.machine.State.{Call, Include, State, Alive, Covered}
use Rattle.arj_law_parts.specs.parts.Copies.{Paths}
use Rattle.arj_law_lock_view.specs.view.Acts.{Acts}
use Rattle.arj_law_lock_view.specs.view.Actions.{IsHere, IsLone, IsSteady, SeesActions}
use Rattle.arj_law_lock_view.specs.view.Ending.{ChangesOne, KeepsActions, aborted, called_at, committed_at}
use Rattle.arj_law_lock_view.specs.view.Going.{Goes}

-- An open action of a coordinator that waits for nothing, and nothing above or below it waits.
pub record IsFreeToEnd (act : Acts) (paths : Paths) (c : Coord) (u : Uid) (b : Branch) (d : Doing) : Type 0 where
  pub steady : IsSteady act paths c
  pub there : branch_of u c.tree ≡ Some b
  pub unended : is_some b.ended ≡ false
  pub works : doing_of u c ≡ Some d
  pub idle : d.now ≡ Idle
  pub lone : IsLone paths u c

-- whoever made a call in one of the coordinator's units is one of its actions
abbrev pub CallersAreHere : Acts → Tree → State → Type 0
CallersAreHere act t S = (k : Call) (u : Uid) (b : Branch) → In k S.calls → branch_of u t ≡ Some b → root k.act ≡ root (act u) →
    IsHere act t k.act

-- Only actions of this unit changed, and lines were written.
pub record OnlyActed (unit : ℕ) (S T : State) : Type 0 where
  pub rest : T ≡ record S { action = T.action; now = T.now }
  pub others : (a : Act) → root a ≢ unit → T.action a ≡ S.action a
  pub ended : (a : Act) → 3 ≤ (S.action a).stage → T.action a ≡ S.action a

-- No unit changed.
abbrev pub KeepsUnits : State → State → Type 0
KeepsUnits S T = (n : ℕ) → T.action (Root n) ≡ S.action (Root n)

-- the actions are seen after the action's end
abbrev pub IsEndSeen : Acts → ℕ → Coord → Uid → End → State → (State → Type 0) → Type 0
IsEndSeen act x c u e S P = Goes S (λ T. SeesActions act x (ended u e c) T.action × OnlyActed (root (act u)) S T × P T)

-- A nested action that isn't doomed is committed by a line, where nothing is open in it.
abbrev pub NestedCommitsAreSeen : Type 0
NestedCommitsAreSeen = (act : Acts) (paths : Paths) (x p : ℕ) (c : Coord) (u : Uid) (b : Branch) (d : Doing) (S : State)
    → IsFreeToEnd act paths c u b d → b.kind ≡ kind.Nested → b.doomed ≡ false → has_open_child u c.tree ≡ false →
    CallersAreHere act c.tree S → S.now ≤ p → SeesActions act x c S.action
    → IsEndSeen act x c u ending.Commit S (λ T. (T.now ≡ p + 1) × ((T.action (act u)).stage ≡ 3) × KeepsUnits S T
    × ChangesOne (act u) (committed_at p (S.action (act u))) S T)

-- An open action that isn't serializing is aborted.
abbrev pub AbortionsAreSeen : Type 0
AbortionsAreSeen = (act : Acts) (paths : Paths) (x : ℕ) (c : Coord) (u : Uid) (b : Branch) (d : Doing) (S : State)
    → IsSteady act paths c → branch_of u c.tree ≡ Some b → is_some b.ended ≡ false → doing_of u c ≡ Some d → b.kind ≢ kind.Serial →
    SeesActions act x c S.action
    → IsEndSeen act x c u ending.Abort S
    (λ T. (T.now ≡ S.now) × ((T.action (act u)).stage ≡ 4) × KeepsUnits S T × ChangesOne (act u) (aborted (S.action (act u))) S T)

-- A root ends in which nothing is open: its unit is over.
abbrev pub UnitsEnd : Type 0
UnitsEnd = (act : Acts) (paths : Paths) (x : ℕ) (c : Coord) (u : Uid) (b : Branch) (e : End) (S : State)
    → IsSteady act paths c → branch_of u c.tree ≡ Some b → is_some b.ended ≡ false → b.kind ≡ kind.Serial →
    has_open_child u c.tree ≡ false → SeesActions act x c S.action
    → IsEndSeen act x c u e S (λ T. (T.now ≡ S.now) × ((T.action (act u)).stage ≡ 3) × KeepsActions S T)

-- No other top of the root is at its commit.
abbrev pub IsFirst : Acts → Coord → Uid → Type 0
IsFirst act c u = (w : Uid) (e : Doing) → doing_of w c ≡ Some e → is_committing_now e.now ≡ true → root (act w) ≢ root (act u)

-- A top that isn't doomed, in which nothing is open, is at its commit from its line on.
abbrev pub TopsBegin : Type 0
TopsBegin = (act : Acts) (paths : Paths) (x p : ℕ) (c : Coord) (u : Uid) (b : Branch) (d : Doing) (m : Machine) (S : State)
    → IsFreeToEnd act paths c u b d → b.kind ≢ kind.Serial → b.kind ≢ kind.Nested → b.doomed ≡ false → has_open_child u c.tree ≡ false →
    CallersAreHere act c.tree S → IsFirst act c u → d.req ≤ (let q = plan_of m in q.req) → S.now ≤ p
    → SeesActions act x c S.action → Goes S (λ T. SeesActions act x (commits_in u m c) T.action × OnlyActed (root (act u)) S T
    × (T.now ≡ p + 1) × ((T.action (act u)).stage ≡ 1) × (T.action (act u) ≡ called_at p (S.action (act u)))
    × ((a : Act) → same a (act u) ≡ false → T.action a ≡ S.action a))

-- What the decision of a top stands on: the votes and the confirmation for each call and include that counts.
pub record IsBacked (m : Act) (S : State) : Type 0 where
  pub calls : (k : Call) → In k S.calls → Alive S k.act → Covered S m k.act → (S.yes m ≡ S.kept (root m)) × (S.confirmed m ≡ true)
  pub includes : (k : Include) → In k S.includes → Alive S k.act → Covered S m k.act → S.confirmed m ≡ true

-- A top at its commit is decided and has its line.
abbrev pub DecisionsAreSeen : Type 0
DecisionsAreSeen = (act : Acts) (paths : Paths) (x p : ℕ) (c : Coord) (u : Uid) (b : Branch) (d : Doing) (m : Machine) (S : State)
    → IsSteady act paths c → branch_of u c.tree ≡ Some b → is_some b.ended ≡ false → doing_of u c ≡ Some d → d.now ≡ Committing m →
    b.kind ≢ kind.Serial → b.kind ≢ kind.Nested → IsBacked (act u) S → S.now ≤ p → SeesActions act x c S.action
    → IsEndSeen act x c u ending.Commit S (λ T. (T.now ≡ p + 1) × ((T.action (act u)).stage ≡ 3) × KeepsUnits S T
    × ChangesOne (act u) (committed_at p (S.action (act u))) S T)
