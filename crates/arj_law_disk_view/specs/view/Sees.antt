-- The disk half of the view, whole: each place of the machine tied to the world, and what each message claims.
use Rattle.std.specs.Prelude.{⊤, ◌≡◌, ◌⊎◌, ◌<◌, ℕ, Bool, true, false, List, ◌++◌, length, Option, Some, None, ◌==◌, ◌∷◌}
use Rattle.std.specs.List.{list_any, AllByRecursion}
use Rattle.arj_protocol.specs.Words.{Uid, End, Kind, Line, Body, ObjectState, Head, Asked, Ask, asks, Message, uid_eq, is_on, object}
use Rattle.arj_protocol.specs.Words.{PreparedReply}
use Rattle.arj_protocol.specs.Words.ask
use Rattle.arj_protocol.specs.Words.body
use Rattle.arj_protocol.specs.Words.kind
use Rattle.arj_protocol.specs.Words.ending
use Rattle.arj_protocol.specs.Words.message
use Rattle.arj_protocol.specs.Words.loaded
use Rattle.arj_protocol.specs.Words.prepared
use Rattle.arj_protocol.specs.Words.confirmed
use Rattle.arj_protocol.specs.Ask.{Reply, answers, actor, top_of, last_end}
use Rattle.arj_protocol.specs.Commit as commit
use Rattle.arj_protocol.specs.Commit.{Used, changed_of, Voting, Preparing, Confirming, begin_prepare, targets_of}
use Rattle.arj_protocol.specs.Coord.{Coord, Doing, Joined, Root, Now, Committing, doing_of}
use Rattle.arj_protocol.specs.Naming.{Naming}
use Rattle.arj_protocol.specs.Node.{Parts, Took, serve, handle_ends, handle_hello, holders, with_coord}
use Rattle.arj_protocol.specs.Effect.{Disk, Effect, Intent}
use Rattle.arj_protocol.specs.Asking.{moved_commit, step_commit, gives_up}
use Rattle.arj_protocol.specs.Order as order
use Rattle.arj_protocol.specs.Order.{at_uid, uid_number}
use Rattle.arj_protocol.specs.Step.{Node}
use Rattle.arj_protocol.specs.Tree.{Branch, branch_of, is_open}
use Rattle.arj_law_disk.specs.machine.Effects as machine
use Rattle.arj_law_disk.specs.machine.Effects.{World, Follows, Whole, run}
use Rattle.arj_law_disk.specs.machine.Guards.{AreOnlyOf, Note, Begins, Decides}
use Rattle.arj_law_disk.specs.machine.Messages as mail
use Rattle.arj_law_disk.specs.machine.State as disk
use Rattle.arj_law_disk.specs.machine.State.{State, naming, target, is_gone, is_sealed, undecided, Known}
use Rattle.arj_law_disk.specs.machine.Words.{In}
use Rattle.arj_law_parts.specs.moves.Seen as seen
use Rattle.arj_law_parts.specs.moves.Seen.{up}
use Rattle.arj_promise.specs.Runs.{Post, Seen}
use Rattle.arj_law_parts.specs.moves.Walks.{Walks, Up}
use Rattle.arj_law_disk_view.specs.view.Asking.{SeesPreparing, SeesConfirming, IsUnanswered}
use Rattle.arj_law_disk_view.specs.view.Confirming.{SaysMarks}
use Rattle.arj_law_disk_view.specs.view.Deciding.{SeesRecords}
use Rattle.arj_law_disk_view.specs.view.Entries.{SeesEntry}
use Rattle.arj_law_disk_view.specs.view.Pairs.{Among, packed}
use Rattle.arj_law_disk_view.specs.view.Plans.{IsTidy, plan_at, used_at}
use Rattle.arj_law_disk_view.specs.view.Stores.{SeesStore, ClaimsPrepare, ClaimsCommit, ClaimsAbort}

-- A walk through a handler's effects: the machine's world where it begins, and what it may do in which naming's half has a part.
pub record Walk : Type 0 where
  pub from : World
  pub noted : Note → Bool

-- Of each action, by its number: whether it is a top, constituents among them; whether it is a serializing action; and its
-- root. A run's journal fixes them. And the walk, where what the machine does is followed from its beginning.
pub record Kinds : Type 0 where
  pub is_top : ℕ → Bool
  pub is_serial : ℕ → Bool
  pub root : ℕ → ℕ
  pub walk : Option Walk

-- what may be done of that: anything, where no walk is followed
abbrev pub may_note : Option Walk → Note → Bool
may_note None n = true
may_note (Some w) n = w.noted n

-- the machine has come here from the beginning of the walk, by effects that it may do
pub record Along (w : Walk) (W : World) : Type 0 where
  pub effects : List machine.Effect
  pub allowed : Follows w.from effects
  pub here : run w.from effects ≡ W
  pub only : AreOnlyOf w.noted effects

-- outside of a walk nothing is asked
abbrev pub IsAlong : Option Walk → World → Type 0
IsAlong None W = ⊤
IsAlong (Some w) W = Along w W

-- ---- what messages claim

-- the action's beginning stands in the journal
abbrev pub begins : Uid → Body → Bool
begins u (body.Began l k v parent) = uid_eq v u
begins u _ = false

-- so some line of the journal says
abbrev pub was_begun : Uid → List Line → Bool
was_begun u lines = list_any (λ (l : Line). begins u l.body) lines

-- A Confirm: the machine has asked, and what is marked and included is what the prepare step found.
pub record ClaimsConfirm (x : ℕ) (W : World) (t : ℕ) (grants excluded included : List (ℕ × ℕ)) : Type 0 where
  pub asked : In (mail.Confirm t) W.sent
  pub says : SaysMarks x (W.disk.plan t) (W.disk.got t) grants excluded included

-- what a request claims: a Prepare and a Confirm alone
abbrev pub ClaimsAsk : ℕ → World → ℕ → Head → Ask → Type 0
ClaimsAsk x W to h (ask.Prepare states) = ClaimsPrepare x W (actor h.path) to states
ClaimsAsk x W to h (ask.Confirm grants excluded included) =
    (actor h.path ≡ top_of h.path) × ClaimsConfirm x W (uid_number (top_of h.path)) grants excluded included
ClaimsAsk x W to h _ = ⊤

-- what an answer claims: that a state is prepared, that the top is confirmed, that a loaded state was the last one once
abbrev pub ClaimsReply : ℕ → World → ℕ → Uid → Reply → Type 0
ClaimsReply x W from u (Reply.Prepared prepared.Yes) =
    (W.disk.begun (uid_number u) ≡ true) × (target (W.disk.plan (uid_number u)) from ≡ true → In (mail.Prepared (uid_number u) from) W.sent)
ClaimsReply x W from u (Reply.Confirmed confirmed.Yes) = In (mail.Confirmed (uid_number u)) W.sent
ClaimsReply x W from u (Reply.Loaded (loaded.State st)) = st.uid ≡ object x → Known W.disk (packed st)
ClaimsReply x W from u _ = ⊤

-- a nested action
abbrev pub IsNested : Kinds → ℕ → Type 0
IsNested tops t = (tops.is_top t ≡ false) × (tops.is_serial t ≡ false)

-- An end: of a top, of a serializing action, or of a nested action, which has nothing prepared.
abbrev pub ClaimsEnd : Kinds → World → ℕ → Uid × End → Type 0
ClaimsEnd tops W to (u, ending.Commit) = ClaimsCommit W u to ⊎ IsNested tops (uid_number u)
ClaimsEnd tops W to (u, ending.Abort) = ((tops.is_top (uid_number u) ≡ true) × ClaimsAbort W u to)
    ⊎ (((W.disk.serial (uid_number u) ≡ true) × In (mail.ToldSerial (uid_number u) to) W.sent) ⊎ IsNested tops (uid_number u))

-- where it is to be acknowledged, it is a commit with a record
abbrev pub ClaimsLast : Kinds → World → ℕ → Bool → Option (Uid × End) → Type 0
ClaimsLast tops W to ack None = ⊤
ClaimsLast tops W to ack (Some e) = ClaimsEnd tops W to e × (ack ≡ true → In (mail.ToldCommit (uid_number e.0) to) W.sent)

-- what other messages claim: of ends, of acknowledgements, and that who is asked about was begun
abbrev pub ClaimsOther : Kinds → World → List Line → ℕ → ℕ → Message → Type 0
ClaimsOther tops W lines from to (message.Told m) = ClaimsLast tops W to m.ack (last_end m.ends)
ClaimsOther tops W lines from to (message.Acked m) = In (mail.Acked (uid_number m.act) from) W.sent
ClaimsOther tops W lines from to (message.Query m) = was_begun m.act lines ≡ true
ClaimsOther tops W lines from to _ = ⊤

-- what an answer claims, or any other message
abbrev pub ClaimsAnswered : ℕ → Kinds → World → List Line → ℕ → ℕ → Message → Option (Asked × Reply) → Type 0
ClaimsAnswered x tops W lines from to m None = ClaimsOther tops W lines from to m
ClaimsAnswered x tops W lines from to m (Some a) = ClaimsReply x W from a.0.act a.1

-- what a request claims, or any other message
abbrev pub ClaimsAsked : ℕ → Kinds → World → List Line → ℕ → ℕ → Message → Option (Head × Ask) → Type 0
ClaimsAsked x tops W lines from to m None = ClaimsAnswered x tops W lines from to m (answers m)
ClaimsAsked x tops W lines from to m (Some a) = ClaimsAsk x W to a.0 a.1

-- what a message claims of the object
abbrev pub Claims : ℕ → Kinds → World → List Line → Post → Type 0
Claims x tops W lines p = ClaimsAsked x tops W lines p.from p.to p.message (asks p.message)

-- ---- coordinators

-- an action of this coordinator that hasn't begun, or of a later incarnation
abbrev pub IsFuture : Coord → Uid → Type 0
IsFuture c u = ((u.inc ≡ c.tree.inc) × (length c.tree.branches < u.num)) ⊎ (c.tree.inc < u.inc)

-- what an action is at is so in the machine: only a commit that prepares or waits for naming is something there
abbrev pub WorksBy : ℕ → State → ℕ → Now → Type 0
WorksBy x S t (Committing (Preparing p left)) = SeesPreparing x S t p left
WorksBy x S t (Committing (Confirming p)) = SeesConfirming x S t p
WorksBy x S t _ = S.stage t ≡ disk.Idle

-- an open action: a top by what it waits for, a serializing one isn't over, a nested one is no top
abbrev pub Works : ℕ → Kinds → State → ℕ → Kind → Now → Type 0
Works x tops S t kind.Nested now = tops.is_top t ≡ false
Works x tops S t kind.Serial now = (tops.is_top t ≡ false) × (S.stage t ≡ disk.Idle)
Works x tops S t _ now = (tops.is_top t ≡ true) × WorksBy x S t now

-- the action was committed, and naming took part
pub record IsNamedCommit (b : Branch) (d : Doing) : Type 0 where
  pub committed : b.ended ≡ Some ending.Commit
  pub named : order.has d.took naming ≡ true

-- A coordinator of this incarnation: what its open actions wait for; who isn't open is at its end, if its commit began; who is still to
-- begin is idle; and a commit without a record was one that naming took part in.
pub record SeesCoord (x k inc : ℕ) (tops : Kinds) (c : Coord) (S : State) : Type 0 where
  pub node : c.tree.node ≡ k
  pub present : c.tree.inc ≡ inc
  pub working : (u : Uid) (b : Branch) (d : Doing) → branch_of u c.tree ≡ Some b → b.ended ≡ None → doing_of u c ≡ Some d →
      Works x tops S (uid_number u) b.kind d.now
  pub closed : (u : Uid) → u.node ≡ k → is_open u c.tree ≡ false → S.begun (uid_number u) ≡ true → is_gone (S.stage (uid_number u)) ≡ true
  pub future : (u : Uid) → u.node ≡ k → IsFuture c u → S.stage (uid_number u) ≡ disk.Idle
  pub bare : (u : Uid) (b : Branch) (d : Doing) → branch_of u c.tree ≡ Some b → doing_of u c ≡ Some d → S.bare (uid_number u) ≡ true →
      IsNamedCommit b d

-- a node that is down: each commit that began is at its end, and who is of a later incarnation is idle
pub record SeesDown (k inc : ℕ) (S : State) : Type 0 where
  pub closed : (u : Uid) → u.node ≡ k → S.begun (uid_number u) ≡ true → is_gone (S.stage (uid_number u)) ≡ true
  pub future : (u : Uid) → u.node ≡ k → inc < u.inc → S.stage (uid_number u) ≡ disk.Idle

-- the machine's actions are of these kinds
pub record IsFixed (tops : Kinds) (S : State) : Type 0 where
  pub root : S.root ≡ tops.root
  pub serial : S.serial ≡ tops.is_serial

-- the state was the last one once, if it is of the object
abbrev pub IsKnown : ℕ → World → ObjectState → Type 0
IsKnown x W st = st.uid ≡ object x → Known W.disk (packed st)

-- so it is of a state that is there
abbrev pub IsKnownIfThere : ℕ → World → Option ObjectState → Type 0
IsKnownIfThere x W None = ⊤
IsKnownIfThere x W (Some st) = IsKnown x W st

-- what a root's includes loaded, and what its constituents prepared
pub record KnowsRoot (x : ℕ) (W : World) (r : Root) : Type 0 where
  pub joined : AllByRecursion (λ (j : Joined). IsKnown x W j.loaded) r.joined
  pub states : AllByRecursion (λ (s : ℕ × ObjectState). IsKnown x W s.1) r.states

-- what the plan of a commit that collects its votes loaded
abbrev pub KnowsNow : ℕ → World → Now → Type 0
KnowsNow x W (Committing (Voting p left)) = AllByRecursion (λ (u : Used). IsKnownIfThere x W u.loaded) p.used
KnowsNow x W _ = ⊤

-- the node's acknowledgement is still awaited
abbrev pub is_awaited_by : ℕ → Option Intent → Bool
is_awaited_by m None = false
is_awaited_by m (Some i) = order.has i.nodes m

-- a decided top with its record: each node that the record lists is awaited or has acknowledged
pub record IsSettled (u : Uid) (i : Intent) (telling : List (Uid × Intent)) (W : World) : Type 0 where
  pub done : disk.decided W.disk (uid_number u) ≡ true
  pub awaited : (m : ℕ) → order.has i.nodes m ≡ true → (is_awaited_by m (at_uid u telling) ≡ true) ⊎ In (mail.Acked (uid_number u) m) W.sent

-- What a coordinator has taken note of: each record is of a top that is decided, or still open; who took part in a commit took
-- part in one that was decided, or needed no record; and the states that were loaded were the last ones once.
pub record SeesNotes (x : ℕ) (intents : List (Uid × Intent)) (c : Coord) (W : World) : Type 0 where
  pub settled : (u : Uid) (i : Intent) → at_uid u intents ≡ Some i → (is_open u c.tree ≡ true) ⊎ IsSettled u i c.telling W
  pub taken : (u : Uid) (q : Doing) (n : ℕ) → doing_of u c ≡ Some q → order.has q.took n ≡ true →
      (disk.decided W.disk (uid_number u) ≡ true) ⊎ (W.disk.bare (uid_number u) ≡ true)
  pub roots : AllByRecursion (λ (r : ℕ × Root). KnowsRoot x W r.1) c.roots
  pub plans : (u : Uid) (q : Doing) → doing_of u c ≡ Some q → KnowsNow x W q.now

-- whom naming confirmed is confirmed
abbrev pub SeesConfirmed : Naming → State → Type 0
SeesConfirmed o S = (a : Uid) → is_on o.confirmed a ≡ true →
    (S.begun (uid_number a) ≡ true) × (undecided S (uid_number a) ≡ true → (S.conf (uid_number a) ≡ true) ⊎ (S.light (uid_number a) ≡ true))

-- ---- the disk half

-- `tops` says of what kind each action is, and where the walk began that is followed.
pub record SeesDisks (x : ℕ) (tops : Kinds) (W : World) (M : Seen) : Type 0 where
  pub whole : Whole W
  pub along : IsAlong tops.walk W
  pub fixed : IsFixed tops W.disk
  pub kinds : (t : ℕ) → W.disk.begun t ≡ true → (tops.is_top t ≡ true) × (W.disk.serial t ≡ false)
  pub stores : (s : ℕ) (n : Node) → M.nodes s ≡ Some n → SeesStore x s n.disk.store W.disk
  pub entry : (n : Node) → M.nodes 1 ≡ Some n → SeesEntry x n.disk.names W.disk
  pub records : (k : ℕ) (n : Node) → M.nodes k ≡ Some n → SeesRecords k n.disk.intents W.disk
  pub coords : (k : ℕ) (n : Node) (t : Parts) → M.nodes k ≡ Some n → n.live ≡ Some t → SeesCoord x k n.disk.inc tops t.coord W.disk
  pub notes : (k : ℕ) (n : Node) (t : Parts) → M.nodes k ≡ Some n → n.live ≡ Some t → SeesNotes x n.disk.intents t.coord W
  pub downs : (k : ℕ) (n : Node) → M.nodes k ≡ Some n → n.live ≡ None → SeesDown k n.disk.inc W.disk
  pub confirmed : (n : Node) (t : Parts) (o : Naming) → M.nodes 1 ≡ Some n → n.live ≡ Some t → t.naming ≡ Some o → SeesConfirmed o W.disk
  pub posts : (p : Post) → seen.In p M.sent → Claims x tops W M.lines p

-- there is such a state of the machine
abbrev pub IsSeenByDisks : ℕ → Kinds → Seen → Type 0
IsSeenByDisks x tops M = (W : World) × SeesDisks x tops W M

-- ---- what claims rest on

-- what is known of an earlier state and holds of a later one
pub record IsLater (W V : World) : Type 0 where
  pub begun : (t : ℕ) → W.disk.begun t ≡ true → V.disk.begun t ≡ true
  pub plan : (t : ℕ) → W.disk.begun t ≡ true → V.disk.plan t ≡ W.disk.plan t
  pub sealed : (t : ℕ) → is_sealed (W.disk.stage t) ≡ true → is_sealed (V.disk.stage t) ≡ true
  pub got : (t : ℕ) → is_sealed (W.disk.stage t) ≡ true → V.disk.got t ≡ W.disk.got t
  pub bare : (t : ℕ) → W.disk.bare t ≡ true → V.disk.bare t ≡ true
  pub serial : V.disk.serial ≡ W.disk.serial
  pub root : V.disk.root ≡ W.disk.root
  pub first : V.disk.first ≡ W.disk.first
  pub past : V.disk.past ≡ W.disk.past
  pub first_entry : V.disk.first_entry ≡ W.disk.first_entry
  pub decided : (t : ℕ) → disk.decided W.disk t ≡ true → disk.decided V.disk t ≡ true
  pub sent : (m : mail.Message) → In m W.sent → In m V.sent
  pub known : (g : disk.Packed) → Known W.disk g → Known V.disk g
  pub gone : (t : ℕ) → is_gone (W.disk.stage t) ≡ true → is_gone (V.disk.stage t) ≡ true
  pub opened : (t : ℕ) → W.disk.begun t ≡ true → undecided V.disk t ≡ true → undecided W.disk t ≡ true
  pub taken : (t : ℕ) → W.disk.begun t ≡ true → (V.disk.conf t ≡ true) ⊎ (V.disk.light t ≡ true) →
      ((W.disk.conf t ≡ true) ⊎ (W.disk.light t ≡ true)) ⊎ (undecided W.disk t ≡ true)

-- each effect that is allowed leads to a later state, and what a message claims stays true, whatever lines are said
abbrev pub EffectsAreLater : Type 0
EffectsAreLater = (W : World) (es : List machine.Effect) → Follows W es → Whole W → IsLater W (run W es)

-- what a message claims stays true
abbrev pub ClaimsStay : Type 0
ClaimsStay = (x : ℕ) (tops : Kinds) (W V : World) (lines more : List Line) (p : Post) → Whole W → IsLater W V → Claims x tops W lines p →
    Claims x tops V (lines ++ more) p

-- from here on the walk is followed, where this may be noted
abbrev pub followed : Kinds → World → (Note → Bool) → Kinds
followed tops W f = record tops { walk = Some (record { from = W; noted = f }) }

-- another walk may be followed, or none, where the machine is along it
abbrev pub WalksAreFollowed : Type 0
WalksAreFollowed = (x : ℕ) (tops : Kinds) (o : Option Walk) (W : World) (M : Seen) → IsAlong o W → SeesDisks x tops W M →
    SeesDisks x (record tops { walk = o }) W M

-- ---- what handlers keep of the disk half

-- a request that is taken is walked through, wherever a stop falls
abbrev pub RequestIsWalked : (Ask → Type 0) → Type 0
RequestIsWalked Kind =
    (x : ℕ) (tops : Kinds) (e k : ℕ) (d : Disk) (t v : Parts) (from : ℕ) (h : Head) (a : Ask) (outs : List Effect) (M : Seen)
    → Kind a → IsSeenByDisks x tops (up k d t M) → ((W : World) → SeesDisks x tops W (up k d t M) → ClaimsAsk x W k h a) →
    serve k d t from h a ≡ Took v outs → Walks (IsSeenByDisks x tops) e k outs (Up (IsSeenByDisks x tops) k v) d M

-- a Load, and a Prepare
abbrev pub IsLoad : Ask → Type 0
IsLoad (ask.Load y) = ⊤
IsLoad _ = ⊥

-- a Prepare
abbrev pub IsPrepare : Ask → Type 0
IsPrepare (ask.Prepare states) = ⊤
IsPrepare _ = ⊥

-- a request to a server, or to naming but for a Confirm
abbrev pub IsServed : Ask → Type 0
IsServed (ask.Bind y include avoid) = ⊤
IsServed (ask.Activate b st) = ⊤
IsServed (ask.Record y b i g) = ⊤
IsServed (ask.Invoke y b i ends op) = ⊤
IsServed (ask.Vote i ties ends) = ⊤
IsServed _ = ⊥

-- A node is up again: the other nodes ask about its earlier actions, which have begun.
abbrev pub HellosAreWalked : Type 0
HellosAreWalked = (x : ℕ) (tops : Kinds) (e k : ℕ) (d : Disk) (t v : Parts) (node inc : ℕ) (outs : List Effect) (M : Seen)
    → AllByRecursion (λ u. was_begun u M.lines ≡ true) (holders d t) → IsSeenByDisks x tops (up k d t M) →
    handle_hello d t node inc ≡ Took v outs → Walks (IsSeenByDisks x tops) e k outs (Up (IsSeenByDisks x tops) k v) d M

-- An end that is told to a node without naming, to be acknowledged or not.
abbrev pub EndsAreWalked : Type 0
EndsAreWalked = (x : ℕ) (tops : Kinds) (e k : ℕ) (d : Disk) (t v : Parts) (from : ℕ) (ack : Bool) (ends : List (Uid × End))
    (outs : List Effect) (M : Seen)
    → (k == 1) ≡ false → t.naming ≡ None → IsSeenByDisks x tops (up k d t M) →
    ((W : World) → SeesDisks x tops W (up k d t M) → ClaimsLast tops W k ack (last_end ends))
    → handle_ends k d t from ack ends (last_end ends) ≡ Took v outs →
    Walks (IsSeenByDisks x tops) e k outs (Up (IsSeenByDisks x tops) k v) d M

-- A store's answer to a Prepare that isn't Old: it is taken, and with the last one the coordinator asks naming.
abbrev pub IsTaken : PreparedReply → Type 0
IsTaken prepared.Yes = ⊤
IsTaken (prepared.InDoubt y holder) = ⊤
IsTaken (prepared.Old y v) = ⊥

-- An open top whose prepare step waits for this node; its plan is by its own path, and uses something.
pub record WaitsForStore (t : Parts) (from : ℕ) (act : Uid) (p : commit.Plan) (left : List ℕ) : Type 0 where
  pub branch : Branch
  pub found : branch_of act t.coord.tree ≡ Some branch
  pub unended : branch.ended ≡ None
  pub doing : Doing
  pub at_work : doing_of act t.coord ≡ Some doing
  pub now : doing.now ≡ Committing (Preparing p left)
  pub asked : order.has left from ≡ true
  pub path : top_of p.path ≡ act
  pub own : actor p.path ≡ act
  pub used : Used
  pub more : List Used
  pub uses : p.used ≡ used ∷ more

-- A top takes the answer of a store.
abbrev pub PreparedIsHeard : Type 0
PreparedIsHeard = (x : ℕ) (tops : Kinds) (e k : ℕ) (d : Disk) (t : Parts) (from : ℕ) (act : Uid) (r : PreparedReply) (p : commit.Plan)
    (left : List ℕ) (intents : List (Uid × Intent)) (M : Seen)
    → WaitsForStore t from act p left → tops.is_top (uid_number act) ≡ true → may_note tops.walk (Begins (uid_number act)) ≡ true →
    IsTaken r → (W : World) → SeesDisks x tops W (up k d t M) → ClaimsReply x W from act (Reply.Prepared r)
    → let did = moved_commit act (commit.answered from (Preparing p left) (Reply.Prepared r)) intents t.coord in
    Walks (IsSeenByDisks x tops) e k did.outs (Up (IsSeenByDisks x tops) k (with_coord t did.part)) d M

-- Stores that don't answer are given up: the coordinator asks naming.
abbrev pub SilentAreGivenUp : Type 0
SilentAreGivenUp = (x : ℕ) (tops : Kinds) (e k : ℕ) (d : Disk) (t : Parts) (from : ℕ) (act : Uid) (p : commit.Plan) (left : List ℕ)
    (intents : List (Uid × Intent)) (M : Seen)
    → WaitsForStore t from act p left → tops.is_top (uid_number act) ≡ true → may_note tops.walk (Begins (uid_number act)) ≡ true →
    (W : World) → SeesDisks x tops W (up k d t M)
    → let did = gives_up act intents t.coord (Committing (Preparing p left)) in
    Walks (IsSeenByDisks x tops) e k did.outs (Up (IsSeenByDisks x tops) k (with_coord t did.part)) d M

-- An open top that is to begin its prepare step: it waits for its votes, or its commit just starts.
pub record MayPrepare (x k : ℕ) (tops : Kinds) (W : World) (t : Parts) (act : Uid) (p : commit.Plan) : Type 0 where
  pub branch : Branch
  pub found : branch_of act t.coord.tree ≡ Some branch
  pub unended : branch.ended ≡ None
  pub doing : Doing
  pub at_work : doing_of act t.coord ≡ Some doing
  pub path : actor p.path ≡ act
  pub top : tops.is_top (uid_number act) ≡ true
  pub plain : W.disk.serial (uid_number act) ≡ false
  pub can : machine.CanBegin W.disk (uid_number act) (plan_at x p)
  pub tidy : IsTidy p
  pub unanswered : IsUnanswered p

-- The prepare step begins: each target is sent its states.
abbrev pub PreparesAreAsked : Type 0
PreparesAreAsked = (x : ℕ) (tops : Kinds) (e k : ℕ) (d : Disk) (t : Parts) (act : Uid) (p : commit.Plan) (s : ℕ) (ss : List ℕ)
    (intents : List (Uid × Intent)) (M : Seen) (W : World)
    → targets_of p ≡ s ∷ ss → MayPrepare x k tops W t act p → may_note tops.walk (Begins (uid_number act)) ≡ true →
    SeesDisks x tops W (up k d t M)
    → let did = step_commit act (begin_prepare (targets_of p) p) intents t.coord in
    Walks (IsSeenByDisks x tops) e k did.outs (Up (IsSeenByDisks x tops) k (with_coord t did.part)) d M

-- what a plan changes: of each object one state, of an object that it uses
pub record IsOneChange (p : commit.Plan) (x : ℕ) (st : ObjectState) : Type 0 where
  pub found : changed_of x p ≡ Some st
  pub used : Used
  pub uses : used_at x p.used ≡ Some used

-- so it is of every state that the plan changes
abbrev pub AreOneChange : commit.Plan → Type 0
AreOneChange p = (x : ℕ) (st : ObjectState) → Among st p.changed → st.uid ≡ object x → IsOneChange p x st

-- An open top that waits for naming: its plan is by its own path, and it has no record.
pub record WaitsForNaming (t : Parts) (intents : List (Uid × Intent)) (act : Uid) (p : commit.Plan) : Type 0 where
  pub branch : Branch
  pub found : branch_of act t.coord.tree ≡ Some branch
  pub unended : branch.ended ≡ None
  pub doing : Doing
  pub at_work : doing_of act t.coord ≡ Some doing
  pub now : doing.now ≡ Committing (Confirming p)
  pub path : actor p.path ≡ act
  pub unrecorded : at_uid act intents ≡ None
  pub changes : AreOneChange p

-- Naming's Yes: the record is written where there is one, the top is decided, and all nodes that it sent something are told.
abbrev pub ConfirmedIsHeard : Type 0
ConfirmedIsHeard = (x : ℕ) (tops : Kinds) (e k : ℕ) (d : Disk) (t : Parts) (from : ℕ) (act : Uid) (p : commit.Plan) (M : Seen)
    → WaitsForNaming t d.intents act p → tops.is_top (uid_number act) ≡ true → may_note tops.walk (Decides (uid_number act)) ≡ true →
    (W : World) → SeesDisks x tops W (up k d t M) → ClaimsReply x W from act (Reply.Confirmed confirmed.Yes)
    → let did = moved_commit act (commit.answered from (Confirming p) (Reply.Confirmed confirmed.Yes)) d.intents t.coord in
    Walks (IsSeenByDisks x tops) e k did.outs (Up (IsSeenByDisks x tops) k (with_coord t did.part)) d M
