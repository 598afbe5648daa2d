-- What a coordinator does in the whole world: only one unit's parts of the machine change, and all else is seen as before.
use Rattle.std.specs.Prelude.{⊤, ◌≡◌, ◌≢◌, ◌⊎◌, ◌≤◌, ◌<◌, ◌+◌, ◌++◌, ℕ, ◌∷◌, true, false, List, Option, Some, length, map, is_some}
use Rattle.std.specs.List.{AllByRecursion}
use Rattle.arj_protocol.specs.Words.{Binding, Body, Kind, Label, ObjectState, Op, Uid}
use Rattle.arj_protocol.specs.Words.kind
use Rattle.arj_protocol.specs.Ask.{Reply, top_of}
use Rattle.arj_protocol.specs.Asking.{begin_action, call, commit_action, gives_up, heard_call, include, moved_commit}
use Rattle.arj_protocol.specs.Call.{AtActivate, AtBind, Include as IncludeStore, Known, Steps}
use Rattle.arj_protocol.specs.Commit as commit
use Rattle.arj_protocol.specs.Commit.{Machine, plan_of}
use Rattle.arj_protocol.specs.Coord.{Calling, Committing, Coord, Doing, Idle, doing_of, no_root, root_at}
use Rattle.arj_protocol.specs.Effect.{Intent, Did, Effect, Say, Send}
use Rattle.arj_protocol.specs.Ending.{abort_action}
use Rattle.arj_protocol.specs.Node.{with_coord}
use Rattle.arj_protocol.specs.Order.{binding_number}
use Rattle.arj_protocol.specs.Tree.{Branch, branch_of, ends_of, has_open_child, next_uid, path_below}
use Rattle.arj_protocol.specs.World.{Labelled, numbered}
use Rattle.arj_law_lock.specs.machine.Actions.{Act, In, root}
use Rattle.arj_law_lock.specs.machine.Machine.{Run}
use Rattle.arj_law_lock.specs.machine.State as state
use Rattle.arj_law_lock.specs.machine.State.{State}
use Rattle.arj_law_parts.specs.parts.Actions.{Action, AreBegun, Begins}
use Rattle.arj_law_parts.specs.parts.Claims.{GoesOn}
use Rattle.arj_law_parts.specs.parts.Coords.{IsGoodCoord}
use Rattle.arj_law_parts.specs.parts.Ends.{IsSure}
use Rattle.arj_law_parts.specs.parts.Trees.{MayStand}
use Rattle.arj_law_parts.specs.moves.Seen.{Within, given}
use Rattle.arj_promise.specs.Runs.{Post}
use Rattle.arj_law_parts.specs.moves.Walks.{Up, Walks}
use Rattle.arj_law_lock_view.specs.facts.Works.{KnowsEnds}
use Rattle.arj_law_lock_view.specs.view.Acting.{IsFirst, IsFreeToEnd}
use Rattle.arj_law_lock_view.specs.view.Calling.{IsAtWork, IsCalling, IsElsewhere, IsWaiting, ShowsAnswer}
use Rattle.arj_law_lock_view.specs.view.Going.{NobodyConfirmed}
use Rattle.arj_law_lock_view.specs.view.Including.{ShowsInclude}
use Rattle.arj_law_lock_view.specs.view.Inputs.{AreTopped, HasLowGrant, SeesWhole, plan_now}
use Rattle.arj_law_lock_view.specs.view.Listed.{AreUnserial}
use Rattle.arj_law_lock_view.specs.view.Outside.{IsAway}
use Rattle.arj_law_lock_view.specs.view.Plans.{AreKept, ShowsToCommit}
use Rattle.arj_law_lock_view.specs.running.Beside.{Case, HoldsNamingIn, IsSeenIn, Spot, world_at}
use Rattle.arj_law_lock_view.specs.running.Fixed.{Fixed}
use Rattle.arj_law_lock_view.specs.running.Posts.{IsPostSeen}
use Rattle.arj_law_lock_view.specs.running.Sees.{IsUnbegun}
use Rattle.arj_law_lock_view.specs.running.Tied.{AreTied, BeginNone}
use Rattle.arj_law_lock_view.specs.running.World.{IsSeenSo}

-- ---- one unit

-- Of the machine only what coordinators have changed, and of them only what one unit has: its actions that hadn't ended, the binding that
-- is kept for it, calls and includes of it. A binding's server and maker stay, and all of it once an incarnation was heard. A coordinator
-- without an action of the unit is seen as before.
pub record OnlyUnit (f : Fixed) (x unit : ℕ) (S T : State) : Type 0 where
  pub naming : T.naming ≡ S.naming
  pub confirmed : NobodyConfirmed S T
  pub servers : T.server ≡ S.server
  pub actions : (a : Act) → root a ≢ unit → T.action a ≡ S.action a
  pub ended : (a : Act) → 3 ≤ (S.action a).stage → T.action a ≡ S.action a
  pub kept : (n : ℕ) → n ≢ unit → T.kept n ≡ S.kept n
  pub bindings : (b : ℕ) → ((T.binding b).server ≡ (S.binding b).server) × ((T.binding b).maker ≡ (S.binding b).maker)
  pub named : (b : ℕ) → (S.binding b).named ≡ true → T.binding b ≡ S.binding b
  pub calls : (d : state.Call) → In d T.calls → In d S.calls ⊎ (root d.act ≡ unit)
  pub includes : (k : state.Include) → In k T.includes → In k S.includes ⊎ (root k.act ≡ unit)
  pub sent : (m : state.Message) → In m S.net → In m T.net
  pub coords : (c : Coord) → IsAway f.act unit c → SeesWhole f.act f.code x c S → SeesWhole f.act f.code x c T

-- ---- a coordinator's step

-- The machine has gone along with what a coordinator did for the unit of this action, where it says this many lines: the coordinator is
-- seen whole again, nothing else changed, nor any action that wasn't begun.
pub record HasStepped (c : Case) (s : Spot) (u : Uid) (says : ℕ) (C : Coord) (T : State) : Type 0 where
  pub run : Run c.state T
  pub coord : SeesWhole (let f = c.fixed in f.act) (let f = c.fixed in f.code) c.x C T
  pub only : OnlyUnit c.fixed c.x (root (let f = c.fixed in f.act u)) c.state T
  pub changed : (w : Uid) → IsUnbegun c.begun w →
      T.action (let f = c.fixed in f.act w) ≡ (let S = c.state in S.action (let f = c.fixed in f.act w))
  pub now : T.now ≤ length (let M = s.seen in M.lines) + says + 1

-- what is sent is shown in the machine's state, whatever else was sent
abbrev pub IsSendShown : Case → Spot → State → Effect → Type 0
IsSendShown c s T (Send to m) = (wide : List Post) → Within (let M = s.seen in M.sent) wide →
    IsPostSeen c.fixed c.x c.begun wide T (record { from = s.node; to = to; message = m })
IsSendShown c s T _ = ⊤

-- so it is of all effects
abbrev pub AreSendsShown : Case → Spot → State → List Effect → Type 0
AreSendsShown c s T outs = AllByRecursion (IsSendShown c s T) outs

-- only messages are sent
abbrev pub IsSend : Effect → Type 0
IsSend (Send to m) = ⊤
IsSend e = ⊥

-- so it is of all effects
abbrev pub AreSends : List Effect → Type 0
AreSends outs = AllByRecursion IsSend outs

-- the object is seen through all of a coordinator's step, and behind it
abbrev pub StepGoes : Case → Spot → ℕ → Did Coord → Type 0
StepGoes c s e d = Walks (IsSeenSo c) e s.node d.outs (Up (IsSeenSo c) s.node (with_coord s.parts d.part)) s.disk s.seen

-- A coordinator says lines, at which no action begins, and sends: where the machine has gone along, the journal with the lines is tied, and
-- what is sent is shown, the object is seen in the whole world.
abbrev pub CoordsGo : Type 0
CoordsGo = (c : Case) (s : Spot) (e : ℕ) (u : Uid) (b : Branch) (bs : List Body) (sends : List Effect) (C : Coord) (T : State)
    → IsSeenIn c (world_at s) → branch_of u (let t = s.parts in let d = t.coord in d.tree) ≡ Some b →
    GoesOn (let t = s.parts in t.coord) C → AreSends sends → HasStepped c s u (length bs) C T → AreSendsShown c s T sends →
    BeginNone bs → AreTied c.fixed c.x ((let M = s.seen in M.lines) ++ numbered e bs) T
    → StepGoes c s e (record { part = C; outs = map Say bs ++ sends })

-- ---- ends and aborts

-- What is known of a coordinator behind its step, by the protocol alone: it goes on, is good, has of ends what was decided, and lists no
-- end of a serializing action.
pub record KnowsCoord (c : Case) (s : Spot) (C : Coord) : Type 0 where
  pub on : GoesOn (let t = s.parts in t.coord) C
  pub good : IsGoodCoord c.begun (let f = c.fixed in f.paths) C
  pub sure : IsSure C
  pub unserial : (r : Uid) → AreUnserial C (ends_of r C.tree)

-- its coordinator at first
abbrev pub coord_at : Spot → Coord
coord_at s = let t = s.parts in t.coord

-- the records on its disk
abbrev pub records_at : Spot → List (Uid × Intent)
records_at s = let d = s.disk in d.intents

-- The commit of a nested action, and the end of a serializing action.
abbrev pub NestedCommitsGo : Type 0
NestedCommitsGo = (c : Case) (s : Spot) (e : ℕ) (u : Uid) (b : Branch) (d : Doing)
    → IsSeenIn c (world_at s) → IsFreeToEnd (let f = c.fixed in f.act) (let f = c.fixed in f.paths) (coord_at s) u b d →
    (b.kind ≡ kind.Nested) ⊎ (b.kind ≡ kind.Serial) → b.doomed ≡ false → has_open_child u (let q = coord_at s in q.tree) ≡ false
    → let D = commit_action b (records_at s) (coord_at s) in KnowsCoord c s D.part → StepGoes c s e D

-- A doomed action is aborted.
abbrev pub DoomedCommitsGo : Type 0
DoomedCommitsGo = (c : Case) (s : Spot) (e : ℕ) (u : Uid) (b : Branch) (d : Doing)
    → IsSeenIn c (world_at s) → IsFreeToEnd (let f = c.fixed in f.act) (let f = c.fixed in f.paths) (coord_at s) u b d → b.doomed ≡ true →
    has_open_child u (let q = coord_at s in q.tree) ≡ false
    → let D = commit_action b (records_at s) (coord_at s) in KnowsCoord c s D.part → StepGoes c s e D

-- An open action is aborted with all that is open below it.
abbrev pub AbortsGo : Type 0
AbortsGo = (c : Case) (s : Spot) (e : ℕ) (u : Uid) (b : Branch)
    → IsSeenIn c (world_at s) → branch_of u (let q = coord_at s in q.tree) ≡ Some b → is_some b.ended ≡ false
    → let D = abort_action u (records_at s) (coord_at s) in KnowsCoord c s D.part → StepGoes c s e D

-- ---- calls and includes

-- What is known of the calls that wait behind a step: the state that came for a binding is the object's, and a Bind of the object avoids a
-- binding that was made before.
pub record KnowsAsks (c : Case) (C : Coord) : Type 0 where
  pub states : (u : Uid) (d : Doing) (w : Steps) (k : Known) (o : ObjectState) → doing_of u C ≡ Some d → d.now ≡ Calling w →
      w.at ≡ AtActivate k o → (let q = o.uid in q.num) ≡ w.x
  pub avoids : (u : Uid) (d : Doing) (w : Steps) (a : Binding) → doing_of u C ≡ Some d → d.now ≡ Calling w → w.at ≡ AtBind a → w.x ≡ c.x →
      binding_number a < (let S = c.state in let n = S.naming in n.bound)

-- an action at work at this coordinator
abbrev pub IsWorking : Case → Spot → Uid → Branch → Doing → Type 0
IsWorking c s u b d = IsAtWork (let f = c.fixed in f.act) (let f = c.fixed in f.paths) (coord_at s) u b d

-- A call begins, on any object; and an include.
abbrev pub CallsGo : Type 0
CallsGo = (c : Case) (s : Spot) (e y : ℕ) (u : Uid) (b : Branch) (d : Doing) (o : Op)
    → IsSeenIn c (world_at s) → IsWorking c s u b d → d.now ≡ Idle → b.kind ≢ kind.Serial
    → let D = call b.path y o (coord_at s) in KnowsCoord c s D.part → KnowsAsks c D.part → StepGoes c s e D

-- an include begins
abbrev pub IncludesGo : Type 0
IncludesGo = (c : Case) (s : Spot) (e y store : ℕ) (u : Uid) (b : Branch) (d : Doing)
    → IsSeenIn c (world_at s) → IsWorking c s u b d → d.now ≡ Idle → b.kind ≢ kind.Serial
    → let D = include b.path y store (coord_at s) in KnowsCoord c s D.part → KnowsAsks c D.part → StepGoes c s e D

-- An answer to a call on the object is taken; one to an include of it; and one about another object.
abbrev pub CallAnswersGo : Type 0
CallAnswersGo = (c : Case) (s : Spot) (e : ℕ) (u : Uid) (b : Branch) (d : Doing) (w : Steps) (o : Op) (r : Reply)
    → IsSeenIn c (world_at s) → IsWorking c s u b d → IsCalling c.x b d w o →
    ShowsAnswer (let f = c.fixed in f.act) (let f = c.fixed in f.code) w o c.state w.at r
    → let D = heard_call w r (coord_at s) in KnowsCoord c s D.part → KnowsAsks c D.part → StepGoes c s e D

-- an answer to an include of the object is taken
abbrev pub IncludeAnswersGo : Type 0
IncludeAnswersGo = (c : Case) (s : Spot) (e store : ℕ) (u : Uid) (b : Branch) (d : Doing) (w : Steps) (r : Reply)
    → IsSeenIn c (world_at s) → IsWorking c s u b d → IsWaiting b d w → w.x ≡ c.x → w.goal ≡ IncludeStore store →
    ShowsInclude (let f = c.fixed in f.act) (top_of w.path) c.state r
    → let D = heard_call w r (coord_at s) in KnowsCoord c s D.part → KnowsAsks c D.part → StepGoes c s e D

-- an answer about another object is taken
abbrev pub OtherAnswersGo : Type 0
OtherAnswersGo = (c : Case) (s : Spot) (e : ℕ) (u : Uid) (b : Branch) (d : Doing) (w : Steps) (r : Reply)
    → IsSeenIn c (world_at s) → IsWorking c s u b d → IsWaiting b d w → w.x ≢ c.x
    → let D = heard_call w r (coord_at s) in KnowsCoord c s D.part → KnowsAsks c D.part → StepGoes c s e D

-- A call on the object is given up, behind the line of whom it waited for; and an include, or a call on another object.
abbrev pub LostCallsGo : Type 0
LostCallsGo = (c : Case) (s : Spot) (e : ℕ) (u : Uid) (b : Branch) (d : Doing) (w : Steps) (o : Op)
    → IsSeenIn c (world_at s) → IsWorking c s u b d → IsCalling c.x b d w o
    → let D = gives_up u (records_at s) (coord_at s) (Calling w) in KnowsCoord c s D.part → KnowsAsks c D.part → StepGoes c s e D

-- an include, or a call on another object, is given up
abbrev pub OtherLostGo : Type 0
OtherLostGo = (c : Case) (s : Spot) (e : ℕ) (u : Uid) (b : Branch) (d : Doing) (w : Steps)
    → IsSeenIn c (world_at s) → IsWorking c s u b d → IsWaiting b d w → IsElsewhere c.x w
    → let D = gives_up u (records_at s) (coord_at s) (Calling w) in KnowsCoord c s D.part → KnowsAsks c D.part → StepGoes c s e D

-- ---- commits

-- The commit of a top that isn't doomed is called: its line is said, and the first nodes are asked, or it is decided at once.
abbrev pub TopCommitsGo : Type 0
TopCommitsGo = (c : Case) (s : Spot) (e : ℕ) (u : Uid) (b : Branch) (d : Doing)
    → IsSeenIn c (world_at s) → HoldsNamingIn c s.node (let t = s.parts in t.naming) →
    (free : IsFreeToEnd (let f = c.fixed in f.act) (let f = c.fixed in f.paths) (coord_at s) u b d) →
    AreBegun (let k = free.steady in k.actions) → AreTopped (let f = c.fixed in f.act) (coord_at s)
    → b.kind ≢ kind.Serial → b.kind ≢ kind.Nested → b.doomed ≡ false → has_open_child u (let q = coord_at s in q.tree) ≡ false →
    IsFirst (let f = c.fixed in f.act) (coord_at s) u
    → HasLowGrant c.x (let f = c.fixed in f.act u) (plan_now b (coord_at s)) c.state →
    AreKept c.x (let f = c.fixed in f.act u) (plan_now b (coord_at s)) c.state
    → let D = commit_action b (records_at s) (coord_at s) in
    KnowsCoord c s D.part → KnowsAsks c D.part → KnowsEnds D.part → StepGoes c s e D

-- an open action at its commit at this coordinator
pub record IsAtCommit (s : Spot) (u : Uid) (b : Branch) (d : Doing) (k : Machine) : Type 0 where
  pub there : branch_of u (let q = coord_at s in q.tree) ≡ Some b
  pub unended : is_some b.ended ≡ false
  pub works : doing_of u (coord_at s) ≡ Some d
  pub at : d.now ≡ Committing k
  pub number : d.req ≤ (let q = plan_of k in q.req)

-- An answer to a commit is taken: it stays, asks the next nodes, is decided by its record, or is aborted; a stop at the record
-- leaves it decided, and without a line.
abbrev pub CommitAnswersGo : Type 0
CommitAnswersGo = (c : Case) (s : Spot) (e from : ℕ) (u : Uid) (b : Branch) (d : Doing) (k : Machine) (r : Reply)
    → IsSeenIn c (world_at s) → HoldsNamingIn c s.node (let t = s.parts in t.naming) → IsAtCommit s u b d k →
    ShowsToCommit c.x (let f = c.fixed in f.act u) k from r c.state
    → let D = moved_commit u (commit.answered from k r) (records_at s) (coord_at s) in
    KnowsCoord c s D.part → KnowsAsks c D.part → KnowsEnds D.part → StepGoes c s e D

-- So it does where it is given up, behind the lines of whom it waited for.
abbrev pub LostCommitsGo : Type 0
LostCommitsGo = (c : Case) (s : Spot) (e : ℕ) (u : Uid) (b : Branch) (d : Doing) (k : Machine)
    → IsSeenIn c (world_at s) → HoldsNamingIn c s.node (let t = s.parts in t.naming) → IsAtCommit s u b d k
    → let D = gives_up u (records_at s) (coord_at s) (Committing k) in
    KnowsCoord c s D.part → KnowsAsks c D.part → KnowsEnds D.part → StepGoes c s e D

-- ---- beginnings

-- the action that begins, and the case with it
abbrev pub beginning : Kind → Option Branch → Coord → Action
beginning k above q = record { path = path_below k above (next_uid q.tree); kind = k }

-- the case with an action that begins
abbrev pub with_action : Action → Case → Case
with_action a c = record c { begun = a ∷ c.begun }

-- An action begins, which is new and may stand there, where its root has nothing yet: the machine waits, and the object is seen with it.
abbrev pub BeginsGo : Type 0
BeginsGo = (c : Case) (s : Spot) (e : ℕ) (l : Label) (g : Labelled) (k : Kind) (parent : Option Label) (above : Option Branch)
    → IsSeenIn c (world_at s) → Begins (beginning k above (coord_at s)) c.begun →
    MayStand (let f = c.fixed in f.paths) k (let q = coord_at s in q.tree) (let a = beginning k above (coord_at s) in a.path) →
    root_at (next_uid (let q = coord_at s in q.tree)) (coord_at s) ≡ no_root
    → let D = begin_action l k parent above (coord_at s) in let b = with_action (beginning k above (coord_at s)) c in
    Walks (IsSeenSo b) e s.node D.outs (Up (IsSeenSo b) s.node (with_coord s.parts D.part)) s.disk (given l g s.seen)
