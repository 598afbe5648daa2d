-- A whole coordinator, in the machine of one object, at each input and each answer.
use Rattle.std.specs.Prelude.{◌≡◌, ◌≢◌, ◌⊎◌, ◌≤◌, ◌+◌, ◌*◌, ℕ, List, true, false, Some, Contains, is_some, Option}
use Rattle.arj_protocol.specs.Words.{Kind, Label, Op, Uid}
use Rattle.arj_protocol.specs.Words.kind
use Rattle.arj_protocol.specs.Ask.{Reply, actor, top_of}
use Rattle.arj_protocol.specs.Asking.{again_all, begin_action, call, commit_action, give_up_call, heard_call, include, last_req}
use Rattle.arj_protocol.specs.Asking.{moved_commit}
use Rattle.arj_protocol.specs.Call.{Include as IncludeStore, Steps}
use Rattle.arj_protocol.specs.Commit as commit
use Rattle.arj_protocol.specs.Commit.{Machine, Plan, Used, begin_vote, servers_of}
use Rattle.arj_protocol.specs.Coord.{Committing, Coord, Doing, Idle, doing_of, new_coord, plan_for, root_at}
use Rattle.arj_protocol.specs.Effect.{Intent}
use Rattle.arj_protocol.specs.Ending.{abort_action, acked}
use Rattle.arj_protocol.specs.Tree.{Branch, branch_of, has_open_child, root_of}
use Rattle.arj_law_lock.specs.machine.Actions.{Act, In, is_action, root, top}
use Rattle.arj_law_lock.specs.machine.State.{Alive, Call, State}
use Rattle.arj_law_parts.specs.parts.Actions.{AreBegun}
use Rattle.arj_law_parts.specs.parts.Copies.{Paths}
use Rattle.arj_law_lock_view.specs.view.Acting.{IsFirst, IsFreeToEnd}
use Rattle.arj_law_lock_view.specs.view.Actions.{IsSteady}
use Rattle.arj_law_lock_view.specs.view.Acts.{Acts}
use Rattle.arj_law_lock_view.specs.view.Begins.{IsBeginning}
use Rattle.arj_law_lock_view.specs.view.Calling.{IsAtWork, IsCalling, IsElsewhere, IsReached, IsWaiting, OnlyCalled, ShowsAnswer}
use Rattle.arj_law_lock_view.specs.view.Calling.{WritesLine, WritesNone}
use Rattle.arj_law_lock_view.specs.view.Copies.{Codes}
use Rattle.arj_law_lock_view.specs.view.Ending.{AbortsOnly, ChangesOne, aborted, called_at, committed_at, moved_by, now_by}
use Rattle.arj_law_lock_view.specs.view.Going.{Goes}
use Rattle.arj_law_lock_view.specs.view.Including.{OnlyIncluded, SeesIncludes, ShowsInclude, WritesInclude, included_by}
use Rattle.arj_law_lock_view.specs.view.Plans.{AreKept, SeesMachine, ShowsToCommit}
use Rattle.arj_law_lock_view.specs.view.Roots.{SeesCoord}
use Rattle.arj_law_lock_view.specs.view.Stops.{AreAborted, AreUnitsOver, HasStopped, IfDecided, OnlyStopped}

-- ---- what is seen

-- A coordinator is seen, with its includes and its commits under way; and the unit of each root that has ended is over.
pub record SeesWhole (act : Acts) (code : Codes) (x : ℕ) (c : Coord) (S : State) : Type 0 where
  pub coord : SeesCoord act code x c S
  pub includes : SeesIncludes act x c S
  pub commits : (u : Uid) (d : Doing) (k : Machine) → doing_of u c ≡ Some d → d.now ≡ Committing k → SeesMachine x (act u) k S
  pub units : AreUnitsOver act c.tree S

-- Of the machine's parts only those of this unit changed: its actions that hadn't ended, and messages that were sent; and lines were
-- written.
pub record OnlyEnded (unit : ℕ) (S T : State) : Type 0 where
  pub rest : T ≡ record S { action = T.action; now = T.now; net = T.net }
  pub others : (a : Act) → root a ≢ unit → T.action a ≡ S.action a
  pub ended : (a : Act) → 3 ≤ (let k = S.action a in k.stage) → T.action a ≡ S.action a

-- It is seen after something.
abbrev pub GoesWhole : Acts → Codes → ℕ → Coord → State → (State → Type 0) → Type 0
GoesWhole act code x e S P = Goes S (λ T. SeesWhole act code x e T × P T)

-- ---- beginnings and stops

-- An action begins: the machine waits.
abbrev pub BeginsAreTaken : Type 0
BeginsAreTaken = (act : Acts) (code : Codes) (paths : Paths) (x : ℕ) (l : Label) (k : Kind) (parent : Option Label) (above : Option Branch)
    (c : Coord) (S : State)
    → IsBeginning act paths k above c S → SeesWhole act code x c S →
    SeesWhole act code x (let e = begin_action l k parent above c in e.part) S

-- The node stops: the machine has ended the coordinator's actions, but for a top whose record is on the disk.
abbrev pub StopsAreTaken : Type 0
StopsAreTaken = (act : Acts) (code : Codes) (paths : Paths) (x : ℕ) (c : Coord) (last : Option Uid) (S : State)
    → IsSteady act paths c → IfDecided act c last S → SeesWhole act code x c S →
    Goes S (λ T. HasStopped act c.tree last T × OnlyStopped act c.tree S T)

-- ---- commits

-- The commit of a nested action that isn't doomed, and the end of a serializing action.
abbrev pub NestedCommitsAreTaken : Type 0
NestedCommitsAreTaken = (act : Acts) (code : Codes) (paths : Paths) (x p : ℕ) (c : Coord) (u : Uid) (b : Branch) (d : Doing)
    (intents : List (Uid × Intent)) (S : State)
    → IsReached S → IsFreeToEnd act paths c u b d → (b.kind ≡ kind.Nested) ⊎ (b.kind ≡ kind.Serial) → b.doomed ≡ false →
    has_open_child u c.tree ≡ false → S.now ≤ p → SeesWhole act code x c S
    → GoesWhole act code x (let e = commit_action b intents c in
    e.part) S (λ T. OnlyEnded (root (act u)) S T × (T.now ≤ p + 1) × ChangesOne (act u) (committed_at p (S.action (act u))) S T)

-- A commit of a doomed action: it is aborted.
abbrev pub DoomedCommitsAreTaken : Type 0
DoomedCommitsAreTaken = (act : Acts) (code : Codes) (paths : Paths) (x p : ℕ) (c : Coord) (u : Uid) (b : Branch) (d : Doing)
    (intents : List (Uid × Intent)) (S : State)
    → IsReached S → IsFreeToEnd act paths c u b d → b.doomed ≡ true → has_open_child u c.tree ≡ false → S.now ≤ p → SeesWhole act code x c S
    → GoesWhole act code x (let e = commit_action b intents c in
    e.part) S (λ T. OnlyEnded (root (act u)) S T × (T.now ≡ S.now) × ChangesOne (act u) (aborted (S.action (act u))) S T)

-- the action is the top's, or of a committed top of its unit
abbrev pub IsOfUnit : Act → Act → State → Type 0
IsOfUnit m a S = (root a ≡ root m) × ((top a ≡ m) ⊎ ((let k = S.action (top a) in k.stage) ≡ 3))

-- As a top's commit is called, the grant that its plan says of the object isn't above the binding that the unit keeps, where a call of
-- the unit counts.
abbrev pub HasLowGrant : ℕ → Act → Plan → State → Type 0
HasLowGrant x m p S = (q : Used) (k : Call) → Contains p.used q → q.x ≡ x → In k S.calls → Alive S k.act → IsOfUnit m k.act S →
    q.grant * 4294967296 ≤ S.kept (root m)

-- The machine has as top of each of the coordinator's actions the top of its path.
abbrev pub AreTopped : Acts → Coord → Type 0
AreTopped act c = (w : Uid) (q : Branch) → branch_of w c.tree ≡ Some q → is_action (act w) ≡ true → top (act w) ≡ act (top_of q.path)

-- the plan of a commit that is called now
abbrev pub plan_now : Branch → Coord → Plan
plan_now b c = plan_for b.path (last_req (doing_of (actor b.path) c)) (root_at (root_of b.path) c) c

-- The commit of a top that isn't doomed is called: it has its line, and asks the first nodes, or is decided at once.
abbrev pub TopCommitsAreTaken : Type 0
TopCommitsAreTaken = (act : Acts) (code : Codes) (paths : Paths) (x p : ℕ) (c : Coord) (u : Uid) (b : Branch) (d : Doing)
    (intents : List (Uid × Intent)) (S : State)
    → IsReached S → (free : IsFreeToEnd act paths c u b d) → AreBegun (let k = free.steady in k.actions) → AreTopped act c →
    b.kind ≢ kind.Serial → b.kind ≢ kind.Nested → b.doomed ≡ false → has_open_child u c.tree ≡ false → IsFirst act c u → S.now ≤ p
    → HasLowGrant x (act u) (plan_now b c) S → AreKept x (act u) (plan_now b c) S → SeesWhole act code x c S
    → GoesWhole act code x (let e = commit_action b intents c in
    e.part) S (λ T. let st = begin_vote (servers_of (plan_now b c)) (plan_now b c) in OnlyEnded (root (act u)) S T
    × (T.now ≡ now_by st (p + 1) (p + 1)) × ChangesOne (act u) (moved_by st (p + 1) (called_at p (S.action (act u)))) S T)

-- An answer to a commit under way is taken: it stays, asks the next nodes, is decided, or is aborted.
abbrev pub CommitAnswersAreHeard : Type 0
CommitAnswersAreHeard = (act : Acts) (code : Codes) (paths : Paths) (x p from : ℕ) (c : Coord) (u : Uid) (b : Branch) (d : Doing)
    (k : Machine) (r : Reply) (intents : List (Uid × Intent)) (S : State)
    → IsReached S → IsSteady act paths c → branch_of u c.tree ≡ Some b → is_some b.ended ≡ false → doing_of u c ≡ Some d →
    d.now ≡ Committing k → (let q = commit.plan_of k in d.req ≤ q.req) → S.now ≤ p → ShowsToCommit x (act u) k from r S →
    SeesWhole act code x c S
    → GoesWhole act code x (let e = moved_commit u (commit.answered from k r) intents c in
    e.part) S (λ T. let st = (let j = commit.answered from k r in j.step) in
    OnlyEnded (root (act u)) S T × (T.now ≡ now_by st p S.now) × ChangesOne (act u) (moved_by st p (S.action (act u))) S T)

-- So is one that is given up.
abbrev pub CommitsAreLost : Type 0
CommitsAreLost = (act : Acts) (code : Codes) (paths : Paths) (x p : ℕ) (c : Coord) (u : Uid) (b : Branch) (d : Doing) (k : Machine)
    (intents : List (Uid × Intent)) (S : State)
    → IsReached S → IsSteady act paths c → branch_of u c.tree ≡ Some b → is_some b.ended ≡ false → doing_of u c ≡ Some d →
    d.now ≡ Committing k → (let q = commit.plan_of k in d.req ≤ q.req) → S.now ≤ p → SeesWhole act code x c S
    → GoesWhole act code x (let e = moved_commit u (commit.given_up k) intents c in e.part) S (λ T. let st = (let j = commit.given_up k in
    j.step) in OnlyEnded (root (act u)) S T × (T.now ≡ now_by st p S.now) × ChangesOne (act u) (moved_by st p (S.action (act u))) S T)

-- ---- aborts

-- An open action is aborted with all that is open below it.
abbrev pub ActionsAreAborted : Type 0
ActionsAreAborted =
    (act : Acts) (code : Codes) (paths : Paths) (x : ℕ) (c : Coord) (u : Uid) (b : Branch) (intents : List (Uid × Intent)) (S : State)
    → IsReached S → IsSteady act paths c → branch_of u c.tree ≡ Some b → is_some b.ended ≡ false → SeesWhole act code x c S
    → GoesWhole act code x (let e = abort_action u intents c in e.part) S
    (λ T. OnlyEnded (root (act u)) S T × ((T.now ≡ S.now) × AreAborted act paths c.tree u T × AbortsOnly act paths c.tree u S T))

-- ---- calls and includes

-- A call begins, on this object or another one.
abbrev pub CallsAreMade : Type 0
CallsAreMade = (act : Acts) (code : Codes) (paths : Paths) (x y : ℕ) (c : Coord) (u : Uid) (b : Branch) (d : Doing) (o : Op) (S : State)
    → IsReached S → IsAtWork act paths c u b d → d.now ≡ Idle → b.kind ≢ kind.Serial → SeesWhole act code x c S
    → GoesWhole act code x (let e = call b.path y o c in e.part) S (λ T. OnlyCalled (root (act u)) S T × WritesNone S T)

-- An include begins: the machine waits.
abbrev pub IncludesAreMade : Type 0
IncludesAreMade = (act : Acts) (code : Codes) (paths : Paths) (x y store : ℕ) (c : Coord) (u : Uid) (b : Branch) (d : Doing) (S : State)
    → IsReached S → IsAtWork act paths c u b d → d.now ≡ Idle → b.kind ≢ kind.Serial → SeesWhole act code x c S →
    SeesWhole act code x (let e = include b.path y store c in e.part) S

-- An answer to a call on the object is taken.
abbrev pub CallAnswersAreHeard : Type 0
CallAnswersAreHeard = (act : Acts) (code : Codes) (paths : Paths) (x p : ℕ) (c : Coord) (u : Uid) (b : Branch) (d : Doing) (s : Steps)
    (o : Op) (r : Reply) (S : State)
    → IsReached S → IsAtWork act paths c u b d → IsCalling x b d s o → S.now ≤ p → ShowsAnswer act code s o S s.at r →
    SeesWhole act code x c S
    → GoesWhole act code x (let e = heard_call s r c in
    e.part) S (λ T. OnlyCalled (root (act u)) S T × WritesLine act code p s o S T s.at r)

-- An answer to an include on the object is taken.
abbrev pub IncludeAnswersAreHeard : Type 0
IncludeAnswersAreHeard = (act : Acts) (code : Codes) (paths : Paths) (x p store : ℕ) (c : Coord) (u : Uid) (b : Branch) (d : Doing)
    (s : Steps) (r : Reply) (S : State)
    → IsReached S → IsAtWork act paths c u b d → IsWaiting b d s → s.x ≡ x → s.goal ≡ IncludeStore store → S.now ≤ p →
    ShowsInclude act (top_of s.path) S r → SeesWhole act code x c S
    → GoesWhole act code x (let e = heard_call s r c in e.part) S (λ T. OnlyIncluded S T × WritesInclude act p s (included_by s.at r) S T)

-- An answer to a call or an include on another object is taken: the machine waits.
abbrev pub OtherAnswersAreHeard : Type 0
OtherAnswersAreHeard =
    (act : Acts) (code : Codes) (paths : Paths) (x : ℕ) (c : Coord) (u : Uid) (b : Branch) (d : Doing) (s : Steps) (r : Reply) (S : State)
    → IsReached S → IsAtWork act paths c u b d → IsWaiting b d s → s.x ≢ x → SeesWhole act code x c S →
    SeesWhole act code x (let e = heard_call s r c in e.part) S

-- A call on the object is given up.
abbrev pub CallsAreLost : Type 0
CallsAreLost =
    (act : Acts) (code : Codes) (paths : Paths) (x : ℕ) (c : Coord) (u : Uid) (b : Branch) (d : Doing) (s : Steps) (o : Op) (S : State)
    → IsReached S → IsAtWork act paths c u b d → IsCalling x b d s o → SeesWhole act code x c S
    → GoesWhole act code x (let e = give_up_call s c in e.part) S (λ T. OnlyCalled (root (act u)) S T × WritesNone S T)

-- An include, or a call on another object, is given up: the machine waits.
abbrev pub OtherCallsAreLost : Type 0
OtherCallsAreLost =
    (act : Acts) (code : Codes) (paths : Paths) (x : ℕ) (c : Coord) (u : Uid) (b : Branch) (d : Doing) (s : Steps) (S : State)
    → IsReached S → IsAtWork act paths c u b d → IsWaiting b d s → IsElsewhere x s → SeesWhole act code x c S →
    SeesWhole act code x (let e = give_up_call s c in e.part) S

-- ---- ticks, acknowledgements, restarts

-- A tick sends again what waits: the machine waits.
abbrev pub TicksAreTaken : Type 0
TicksAreTaken = (act : Acts) (code : Codes) (x : ℕ) (works : List Doing) (c : Coord) (S : State) → IsReached S → SeesWhole act code x c S →
    SeesWhole act code x (let e = again_all works c in e.part) S

-- So it does at an acknowledgement.
abbrev pub AcksAreTaken : Type 0
AcksAreTaken = (act : Acts) (code : Codes) (x from : ℕ) (u : Uid) (intents : List (Uid × Intent)) (c : Coord) (S : State) → IsReached S →
    SeesWhole act code x c S → SeesWhole act code x (let e = acked from u intents c in e.part) S

-- A coordinator that has just started, with the records that it found, is seen in every state.
abbrev pub RestartsAreTaken : Type 0
RestartsAreTaken = (act : Acts) (code : Codes) (x node inc : ℕ) (records : List (Uid × Intent)) (S : State) →
    SeesWhole act code x (record (new_coord node inc) { telling = records }) S
