-- Nodes that are named, in messages, on disks and in memory: this holds of each of their numbers.
use Rattle.std.specs.Prelude.{⊤, ◌≡◌, ◌≤◌, ◌<◌, ◌-◌, ◌&&◌, ℕ, true, is_some, length, nat_le, List, Option, Some, None}
use Rattle.std.specs.List.{AllByRecursion}
use Rattle.arj_protocol.specs.Words.{Uid, Ask, Asked, Body, BoundReply, Cause, Entry, Head, Header, Line, Message, ObjectLine, ObjectState}
use Rattle.arj_protocol.specs.Words.{Path, Row, asks}
use Rattle.arj_protocol.specs.Words.{entry, uids_of}
use Rattle.arj_protocol.specs.Words.ask
use Rattle.arj_protocol.specs.Words.body
use Rattle.arj_protocol.specs.Words.bound
use Rattle.arj_protocol.specs.Words.cause
use Rattle.arj_protocol.specs.Words.role
use Rattle.arj_protocol.specs.Ask.{Reply, answers}
use Rattle.arj_protocol.specs.Call.{At, AtBind, AtLoad, AtActivate, AtNote, AtInvoke, Answered, CallEnd, CallStep, Changed, Conflict, Ended}
use Rattle.arj_protocol.specs.Call.{Goal, Include, Included}
use Rattle.arj_protocol.specs.Call.{Known, Lost, Moved, On, Run, Steps}
use Rattle.arj_protocol.specs.Commit.{Machine, Plan, Used, left_of, nodes_given_up, plan_of}
use Rattle.arj_protocol.specs.Coord.{Calling, Committing, Coord, Doing, Idle, Joined, Keeping, Now, Root, Went, doing_of}
use Rattle.arj_protocol.specs.Copy.{Copy}
use Rattle.arj_protocol.specs.Effect.{Disk, Do, Effect, Intent, Pair, Prepare, PutIntent, Say, Send, Work, held_at}
use Rattle.arj_protocol.specs.Named.{Live, Made, Named}
use Rattle.arj_protocol.specs.Naming.{Naming}
use Rattle.arj_protocol.specs.Node.{Parts}
use Rattle.arj_protocol.specs.Step.{Node}
use Rattle.arj_protocol.specs.Tree.{Branch}
use Rattle.arj_protocol.specs.Values.{state_entry}
use Rattle.arj_protocol.specs.World.{Frame, World}
use Rattle.arj_law_runs.specs.kept.Worlds.{IsGood}
use Rattle.arj_law_parts.specs.moves.Seen.{In}
use Rattle.arj_promise.specs.Runs.{Post, Seen}
use Rattle.arj_law_runs.specs.addresses.Binds.{BindsAreKnown}

-- ---- numbers, Uids and entries

-- each of these numbers is one of them
abbrev pub AreOf : (ℕ → Type 0) → List ℕ → Type 0
AreOf G ns = AllByRecursion G ns

-- the Uids are of such nodes
abbrev pub UidsOf : (ℕ → Type 0) → List Uid → Type 0
UidsOf G us = AllByRecursion (λ (u : Uid). G u.node) us

-- the Uids of a path are of such nodes
abbrev pub PathOf : (ℕ → Type 0) → Path → Type 0
PathOf G p = UidsOf G (uids_of p)

-- servers and stores of an entry, which lists some server
pub record EntryOf (G : ℕ → Type 0) (e : Entry) : Type 0 where
  pub servers : AreOf G e.servers
  pub stores : AreOf G e.stores
  pub some : 1 ≤ length e.servers

-- the Uid is that of an object's entry
abbrev pub IsEntry : Uid → Type 0
IsEntry u = u ≡ entry u.num

-- the state of an object's entry
abbrev pub StateOf : (ℕ → Type 0) → ObjectState → Type 0
StateOf G s = IsEntry s.uid × EntryOf G (state_entry s)

-- the pair has an entry of the object
abbrev pub HasEntry : Pair → ℕ → Type 0
HasEntry d x = is_some (held_at (entry x) d) ≡ true

-- ---- locks

-- the Uids of a row's holder, among which its top is
abbrev pub RowOf : (ℕ → Type 0) → Row → Type 0
RowOf G r = UidsOf G r.holder × (r.tops - 1 < length r.holder)

-- so it is of all rows
abbrev pub RowsOf : (ℕ → Type 0) → List Row → Type 0
RowsOf G rows = AllByRecursion (RowOf G) rows

-- so it is of the rows of all copies
abbrev pub CopiesOf : (ℕ → Type 0) → List (ℕ × Copy) → Type 0
CopiesOf G objects = AllByRecursion (λ (e : ℕ × Copy). RowsOf G (let c = e.1 in c.rows)) objects

-- the server of a live binding is such a node
abbrev pub LiveOf : (ℕ → Type 0) → Option Live → Type 0
LiveOf G None = ⊤
LiveOf G (Some l) = G l.server

-- the server that was bound last is such a node
abbrev pub TurnOf : (ℕ → Type 0) → Option ℕ → Type 0
TurnOf G None = ⊤
TurnOf G (Some n) = G n

-- what naming has of an object
pub record NamedOf (G : ℕ → Type 0) (o : Named) : Type 0 where
  pub rows : RowsOf G o.rows
  pub live : LiveOf G o.live
  pub made : AllByRecursion (λ (e : Uid × Made). G (let m = e.1 in m.server)) o.made
  pub turn : TurnOf G o.turn

-- each object of naming has its entry in the pair
abbrev pub NamingOf : (ℕ → Type 0) → Pair → Naming → Type 0
NamingOf G d n = AllByRecursion (λ (e : ℕ × Named). HasEntry d e.0 × NamedOf G e.1) n.objects

-- so it is of naming, where it is there
abbrev pub NamesOf : (ℕ → Type 0) → Pair → Option Naming → Type 0
NamesOf G d None = ⊤
NamesOf G d (Some n) = NamingOf G d n

-- ---- disks

-- who has something prepared; the entries, committed and prepared; and the participants of records
pub record DiskOf (G : ℕ → Type 0) (d : Disk) : Type 0 where
  pub store : AllByRecursion (λ (e : Uid × List ObjectState). G (let u = e.0 in u.node)) (let p = d.store in p.pend)
  pub names : AllByRecursion (λ (e : Uid × List ObjectState). G (let u = e.0 in u.node) × AllByRecursion (StateOf G) e.1)
      (let p = d.names in p.pend)
  pub held : AllByRecursion (λ (e : Uid × ObjectState). IsEntry e.0 × StateOf G e.1) (let p = d.names in p.held)
  pub intents : AllByRecursion (λ (e : Uid × Intent). AreOf G (let i = e.1 in i.nodes)) d.intents

-- ---- messages

-- the stores that a Confirm includes are such nodes
abbrev pub AskOf : (ℕ → Type 0) → Ask → Type 0
AskOf G (ask.Confirm grants excluded included) = AllByRecursion (λ (m : ℕ × ℕ). G m.1) included
AskOf G _ = ⊤

-- so it is of a request and of its path
abbrev pub AskedOf : (ℕ → Type 0) → Option (Head × Ask) → Type 0
AskedOf G None = ⊤
AskedOf G (Some a) = PathOf G (let h = a.0 in h.path) × AskOf G a.1

-- an answer to a Bind names such servers and stores
abbrev pub BoundOf : (ℕ → Type 0) → BoundReply → Type 0
BoundOf G (bound.Live b server i g stores) = G server × AreOf G stores
BoundOf G (bound.Make b server g stores) = G server × AreOf G stores
BoundOf G (bound.Write g stores) = AreOf G stores
BoundOf G (bound.Conflict holder m) = ⊤

-- so it is of any answer
abbrev pub ReplyOf : (ℕ → Type 0) → Reply → Type 0
ReplyOf G (Reply.Bound r) = BoundOf G r
ReplyOf G _ = ⊤

-- so it is of a message that is an answer
abbrev pub AnsweredOf : (ℕ → Type 0) → Option (Asked × Reply) → Type 0
AnsweredOf G None = ⊤
AnsweredOf G (Some a) = ReplyOf G a.1

-- a message names such nodes
abbrev pub MessageOf : (ℕ → Type 0) → Message → Type 0
MessageOf G m = AskedOf G (asks m) × AnsweredOf G (answers m)

-- ---- effects

-- so does the cause of an abort, but for a store that naming lists already
abbrev pub CauseOf : (ℕ → Type 0) → Cause → Type 0
CauseOf G (cause.Lost n) = G n
CauseOf G (cause.Conflict holder mode n) = G n
CauseOf G (cause.Changed n d) = G n
CauseOf G (cause.Old n x v) = G n
CauseOf G why = ⊤

-- work names such nodes
abbrev pub WorkOf : (ℕ → Type 0) → Work → Type 0
WorkOf G (Prepare role.Store u states) = G u.node
WorkOf G (Prepare role.Names u states) = G u.node × AllByRecursion (StateOf G) states
WorkOf G (PutIntent u i) = AreOf G i.nodes
WorkOf G _ = ⊤

-- a line names such nodes, but for those of Uids, and for what a disk shows and what frames tell
abbrev pub SaysOf : (ℕ → Type 0) → Body → Type 0
SaysOf G (body.Includes l x n) = G n
SaysOf G (body.Conflict l holder mode n) = G n
SaysOf G (body.Lost l n) = G n
SaysOf G (body.Changed l n d) = G n
SaysOf G (body.Aborted l why) = CauseOf G why
SaysOf G (body.GaveUp l n) = G n
SaysOf G (body.Excluded l x n) = G n
SaysOf G (body.Granted n u o mode) = G n
SaysOf G (body.Lowered n u o) = G n
SaysOf G (body.Bound x b n) = G n
SaysOf G (body.Active n x b) = G n
SaysOf G (body.Told n u e p) = G n
SaysOf G (body.Prepared n u r) = G n
SaysOf G (body.Done n u r e) = G n
SaysOf G (body.Halted n) = G n
SaysOf G (body.Up n i) = G n
SaysOf G (body.Recovered n u) = G n
SaysOf G b = ⊤

-- a message goes to such a node
abbrev pub EffectOf : (ℕ → Type 0) → Effect → Type 0
EffectOf G (Send to m) = G to × MessageOf G m
EffectOf G (Say b) = SaysOf G b
EffectOf G (Do w) = WorkOf G w

-- so it is of all effects
abbrev pub AllOf : (ℕ → Type 0) → List Effect → Type 0
AllOf G outs = AllByRecursion (EffectOf G) outs

-- ---- coordinators

-- what is known of a binding names such a server, and such stores
abbrev pub KnownOf : (ℕ → Type 0) → Known → Type 0
KnownOf G k = G k.server × AreOf G k.stores

-- so it is of what is kept, if anything
abbrev pub KeptOf : (ℕ → Type 0) → Option Known → Type 0
KeptOf G None = ⊤
KeptOf G (Some k) = KnownOf G k

-- what is known of a binding has its server where a call is to run there; an include wants the stores alone
abbrev pub KnownFor : (ℕ → Type 0) → Goal → Known → Type 0
KnownFor G (Run o) k = KnownOf G k
KnownFor G (Include s) k = AreOf G k.stores

-- the step in which a call waits names such nodes
abbrev pub AtOf : (ℕ → Type 0) → Goal → At → Type 0
AtOf G g (AtBind avoid) = ⊤
AtOf G g (AtLoad k s rest) = KnownFor G g k × G s × AreOf G rest
AtOf G g (AtActivate k st) = KnownOf G k
AtOf G g (AtNote k i) = KnownOf G k
AtOf G g (AtInvoke k i) = KnownOf G k

-- the store of an include is such a node
abbrev pub GoalOf : (ℕ → Type 0) → Goal → Type 0
GoalOf G (Run o) = ⊤
GoalOf G (Include s) = G s

-- the store of an include
abbrev pub StoreOf : (ℕ → Type 0) → Goal → Type 0
StoreOf G (Run o) = ⊥
StoreOf G (Include s) = G s

-- only an include ends as one, and other ends name such a node
abbrev pub EndOf : (ℕ → Type 0) → Goal → CallEnd → Type 0
EndOf G g (Answered a) = GoalOf G g
EndOf G g (Included st) = StoreOf G g
EndOf G g (Conflict holder mode n) = G n
EndOf G g (Changed n w) = G n
EndOf G g (Lost n sent) = G n

-- so it is of the step that a call goes on to
abbrev pub StepOf : (ℕ → Type 0) → Goal → CallStep → Type 0
StepOf G g (On at) = AtOf G g at
StepOf G g (Ended e) = EndOf G g e

-- a step of a call: what it goes on to, and what the root keeps
abbrev pub MovedOf : (ℕ → Type 0) → Goal → Moved → Type 0
MovedOf G g m = StepOf G g m.step × KeptOf G m.kept

-- a call or an include under way names such nodes
pub record StepsOf (G : ℕ → Type 0) (s : Steps) : Type 0 where
  pub path : PathOf G s.path
  pub at : AtOf G s.goal s.at
  pub goal : GoalOf G s.goal

-- its server where it was called
abbrev pub UsedOf : (ℕ → Type 0) → Used → Type 0
UsedOf G u = (u.called ≡ true → G u.server) × AreOf G u.stores × AreOf G u.joins

-- a plan names such nodes, and excludes such stores
pub record PlanOf (G : ℕ → Type 0) (p : Plan) : Type 0 where
  pub path : PathOf G p.path
  pub used : AllByRecursion (UsedOf G) p.used
  pub sent : AreOf G p.sent
  pub prepared : AreOf G p.prepared
  pub excluded : AllByRecursion (λ (m : ℕ × ℕ). G m.1) p.excluded

-- so it is of the plan of a commit, of the nodes that haven't answered, and of those of which a giveup says so
abbrev pub MachineOf : (ℕ → Type 0) → Machine → Type 0
MachineOf G m = PlanOf G (plan_of m) × AreOf G (left_of m) × AreOf G (nodes_given_up m)

-- so it is of what an action is at
abbrev pub NowOf : (ℕ → Type 0) → Now → Type 0
NowOf G Idle = ⊤
NowOf G (Calling s) = StepsOf G s
NowOf G (Committing m) = MachineOf G m

-- what a root has names such nodes
pub record RootOf (G : ℕ → Type 0) (r : Root) : Type 0 where
  pub went : AllByRecursion (λ (w : Went). G w.node) r.went
  pub joined : AllByRecursion (λ (j : Joined). G j.store) r.joined
  pub keeping : AllByRecursion (λ (e : ℕ × Keeping). KeptOf G (let k = e.1 in k.kept)) r.keeping

-- a coordinator is at such a node and names such nodes
pub record CoordOf (G : ℕ → Type 0) (c : Coord) : Type 0 where
  pub node : G (let t = c.tree in t.node)
  pub paths : AllByRecursion (λ (b : Branch). PathOf G b.path) (let t = c.tree in t.branches)
  pub works : (u : Uid) (d : Doing) → doing_of u c ≡ Some d → NowOf G d.now
  pub roots : AllByRecursion (λ (e : ℕ × Root). RootOf G e.1) c.roots
  pub telling : AllByRecursion (λ (e : Uid × Intent). AreOf G (let i = e.1 in i.nodes)) c.telling

-- ---- nodes

-- a node's memory, beside its disk
pub record PartsOf (G : ℕ → Type 0) (d : Disk) (t : Parts) : Type 0 where
  pub server : CopiesOf G (let s = t.server in s.objects)
  pub naming : NamesOf G d.names t.naming
  pub coord : CoordOf G t.coord

-- ---- all that is seen

-- servers and stores of an object of the header, which lists some server
abbrev pub LineOf : (ℕ → Type 0) → ObjectLine → Type 0
LineOf G o = AreOf G o.servers × AreOf G o.stores × (1 ≤ length o.servers)

-- so it is of a node's memory, where it is up
abbrev pub UpOf : (ℕ → Type 0) → Disk → Option Parts → Type 0
UpOf G d None = ⊤
UpOf G d (Some t) = PartsOf G d t

-- a node's number, its disk, and its memory where it is up
abbrev pub NodeOf : (ℕ → Type 0) → Node → Type 0
NodeOf G n = G n.number × DiskOf G n.disk × UpOf G n.disk n.live

-- a message is from such a node and to one, and names such nodes
abbrev pub PostOf : (ℕ → Type 0) → Post → Type 0
PostOf G p = G p.from × G p.to × MessageOf G p.message

-- of every node, of every message that was ever sent, and of every line
abbrev pub AreSo : (ℕ → Type 0) → Seen → Type 0
AreSo G M = ((j : ℕ) (n : Node) → M.nodes j ≡ Some n → NodeOf G n) × ((p : Post) → In p M.sent → PostOf G p)
    × AllByRecursion (λ (l : Line). SaysOf G l.body) M.lines

-- ---- runs

-- the number is that of a node of the header
abbrev pub IsNode : Header → ℕ → Type 0
IsNode hd n = (nat_le 1 n && nat_le n hd.nodes) ≡ true

-- What each handler keeps: nodes are good, coordinators know what their calls stand on, and every number that stands for a node is that of
-- one.
abbrev pub AreAddressed : Header → Seen → Type 0
AreAddressed hd M = (IsGood M × BindsAreKnown M) × AreSo (IsNode hd) M

-- each frame goes to a number that is at least 1 and at most that
abbrev pub GoWithin : ℕ → World → Type 0
GoWithin most w = AllByRecursion (λ (f : Frame). (nat_le 1 f.to && nat_le f.to most) ≡ true) w.frames
