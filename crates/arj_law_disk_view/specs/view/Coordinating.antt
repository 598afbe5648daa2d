-- What the coordinator's handlers keep of the disk half, where what is known of the protocol alone holds.
use Rattle.std.specs.Prelude.{⊤, ◌≡◌, ◌⊎◌, ◌≤◌, ◌==◌, Bool, Option, List, ◌+◌, ◌++◌, ℕ, true, false, [], Some, None}
use Rattle.arj_protocol.specs.Words.{Uid, End, Label, Body, Ask, Asked, Head, Message, Op, Kind, Header, asks}
use Rattle.arj_protocol.specs.Words.ask
use Rattle.arj_protocol.specs.Words.message
use Rattle.std.specs.List.{AllByRecursion}
use Rattle.arj_protocol.specs.Follow.{tick_outs}
use Rattle.arj_protocol.specs.Ask.{Reply, actor, answers, last_end, top_of}
use Rattle.arj_protocol.specs.Call.{Steps}
use Rattle.arj_protocol.specs.Commit as commit
use Rattle.arj_protocol.specs.Confirm.{Grants, Marks, confirms}
use Rattle.arj_protocol.specs.Coord.{Coord, Doing, Now, Idle, Calling, Committing, doing_of}
use Rattle.arj_protocol.specs.Effect.{Disk, Did, Effect, Intent}
use Rattle.arj_protocol.specs.Asking.{again_all, begin_action, call, include, heard_call, moved_commit, commit_action, waits_for_commit}
use Rattle.arj_protocol.specs.Asking.{gives_up}
use Rattle.arj_protocol.specs.Ending.{abort_action, acked_left, answer_query, ends_with, decide}
use Rattle.arj_protocol.specs.Naming.{Naming, orphans}
use Rattle.arj_protocol.specs.Node.{Parts, Took, handle, handle_told, serve, holders, prepared_actions, with_coord, with_naming}
use Rattle.arj_protocol.specs.Order.{at_uid, uid_number, uid_set, without_number}
use Rattle.arj_protocol.specs.Step as input
use Rattle.arj_protocol.specs.Step.{Input, acts, branch_named, refusal_up, restart_outs, parts_in}
use Rattle.arj_protocol.specs.World.{Labelled}
use Rattle.arj_protocol.specs.Tree.{Branch, branch_of, is_own, has_open_child, next_uid, path_below}
use Rattle.arj_law_disk.specs.machine.Effects as machine
use Rattle.arj_law_disk.specs.machine.Effects.{World, Allowed, after}
use Rattle.arj_law_disk.specs.machine.Guards.{Note, Begins, Decides, Confirms, Acks}
use Rattle.arj_law_disk.specs.machine.Messages as mail
use Rattle.arj_law_disk.specs.machine.Words.{In}
use Rattle.arj_law_parts.specs.moves.Keeps.{is_act}
use Rattle.arj_law_parts.specs.moves.Seen as seen
use Rattle.arj_law_parts.specs.moves.Seen.{up, down, given}
use Rattle.arj_promise.specs.Runs.{Seen}
use Rattle.arj_promise.specs.Starts.{next_inc}
use Rattle.arj_law_parts.specs.moves.Walks.{Walks, Up}
use Rattle.arj_law_disk_view.specs.view.Confirming.{IsBooked, IsConfirmation, IsNewConfirm, IsUnconfirmed, with_locks}
use Rattle.arj_law_disk_view.specs.view.Knows.{KnowsKinds, KnowsCoord, IsOfKind}
use Rattle.arj_law_disk_view.specs.view.Sees.{Kinds, Walk, followed, may_note, was_begun, IsFuture, SeesDisks, IsSeenByDisks, ClaimsAsk}
use Rattle.arj_law_disk_view.specs.view.Sees.{ClaimsLast, ClaimsReply}
use Rattle.arj_start.specs.Kinds.{is_serial}

-- the coordinator's part of a step keeps the disk half
abbrev pub DidIsWalked : ℕ → Kinds → ℕ → ℕ → Disk → Parts → Did Coord → Seen → Type 0
DidIsWalked x tops e k d t did M = Walks (IsSeenByDisks x tops) e k did.outs (Up (IsSeenByDisks x tops) k (with_coord t did.part)) d M

-- An open action is aborted, with all that is open below it.
abbrev pub ActionsAreAborted : Type 0
ActionsAreAborted = (x : ℕ) (tops : Kinds) (e k : ℕ) (d : Disk) (t : Parts) (act : Uid) (b : Branch) (M : Seen) → KnowsKinds tops →
    KnowsCoord tops d.intents t.coord
    → branch_of act t.coord.tree ≡ Some b → b.ended ≡ None → (W : World) → SeesDisks x tops W (up k d t M) →
    DidIsWalked x tops e k d t (abort_action act d.intents t.coord) M

-- An open action ends by itself, with one line: a nested action is committed, a serializing action that has no open action in it
-- ends, an action is aborted.
abbrev pub ActionsEnd : Type 0
ActionsEnd = (x : ℕ) (tops : Kinds) (e k : ℕ) (d : Disk) (t : Parts) (act : Uid) (b : Branch) (how : End) (line : Label → Body) (M : Seen) →
    KnowsKinds tops → KnowsCoord tops d.intents t.coord
    → branch_of act t.coord.tree ≡ Some b → b.ended ≡ None → (is_serial b.kind ≡ true → has_open_child act t.coord.tree ≡ false) →
    (W : World) → SeesDisks x tops W (up k d t M) → DidIsWalked x tops e k d t (ends_with act how line d.intents t.coord) M

-- the plan of a top that used nothing
pub record UsesNothing (p : commit.Plan) : Type 0 where
  pub used : p.used ≡ []
  pub changed : p.changed ≡ []
  pub prepared : p.prepared ≡ []
  pub confirmed : p.confirmed ≡ false

-- An open top that used nothing is decided at once: there is no record, and nobody took part.
abbrev pub UnusedAreDecided : Type 0
UnusedAreDecided = (x : ℕ) (tops : Kinds) (e k : ℕ) (d : Disk) (t : Parts) (act : Uid) (b : Branch) (p : commit.Plan) (M : Seen) →
    KnowsCoord tops d.intents t.coord
    → branch_of act t.coord.tree ≡ Some b → b.ended ≡ None → tops.is_top (uid_number act) ≡ true → actor p.path ≡ act → UsesNothing p →
    (W : World) → SeesDisks x tops W (up k d t M) → DidIsWalked x tops e k d t (decide p t.coord) M

-- An open top begins its prepare step, from its start or with its last vote: it asks the stores, naming if there are none, and
-- is decided at once where it used nothing.
abbrev pub IsBefore : Now → Type 0
IsBefore Idle = ⊤
IsBefore (Committing (commit.Voting p left)) = ⊤
IsBefore _ = ⊥

-- An open action commits that has no open action in it and that waits for nothing: a doomed one is aborted, a nested one is
-- committed, a serializing one ends; a top asks for its votes.
abbrev pub ActionsCommit : Type 0
ActionsCommit = (x : ℕ) (tops : Kinds) (e k : ℕ) (d : Disk) (t : Parts) (act : Uid) (b : Branch) (q : Doing) (M : Seen) → KnowsKinds tops →
    KnowsCoord tops d.intents t.coord
    → branch_of act t.coord.tree ≡ Some b → b.ended ≡ None → doing_of act t.coord ≡ Some q → q.now ≡ Idle →
    has_open_child act t.coord.tree ≡ false → may_note tops.walk (Begins (uid_number act)) ≡ true
    → (W : World) → SeesDisks x tops W (up k d t M) → DidIsWalked x tops e k d t (commit_action b d.intents t.coord) M

-- An answer that a commit waits for begins it in the machine where it isn't confirmed yet, and else decides it.
abbrev pub commit_note : commit.Machine → ℕ → Note
commit_note (commit.Voting p left) t = Begins t
commit_note (commit.Preparing p left) t = Begins t
commit_note (commit.Confirming p) t = Decides t

-- so much may be noted where an answer comes
abbrev pub MayCommit : Option Walk → commit.Machine → ℕ → Type 0
MayCommit o m t = may_note o (commit_note m t) ≡ true

-- An answer that a commit waits for is taken: a vote, a store's answer, naming's answer.
abbrev pub CommitsAreHeard : Type 0
CommitsAreHeard = (x : ℕ) (tops : Kinds) (e k : ℕ) (d : Disk) (t : Parts) (from : ℕ) (a : Asked) (q : Doing) (m : commit.Machine)
    (r : Reply) (M : Seen) → KnowsKinds tops → KnowsCoord tops d.intents t.coord
    → doing_of a.act t.coord ≡ Some q → q.now ≡ Committing m → waits_for_commit from a r m ≡ true →
    MayCommit tops.walk m (uid_number a.act) → (W : World) → SeesDisks x tops W (up k d t M) → ClaimsReply x W from a.act r
    → DidIsWalked x tops e k d t (moved_commit a.act (commit.answered from m r) d.intents t.coord) M

-- A commit's step is given up.
abbrev pub CommitsAreGivenUp : Type 0
CommitsAreGivenUp = (x : ℕ) (tops : Kinds) (e k : ℕ) (d : Disk) (t : Parts) (act : Uid) (q : Doing) (m : commit.Machine) (M : Seen) →
    KnowsKinds tops → KnowsCoord tops d.intents t.coord
    → doing_of act t.coord ≡ Some q → q.now ≡ Committing m → may_note tops.walk (Begins (uid_number act)) ≡ true → (W : World) →
    SeesDisks x tops W (up k d t M) → DidIsWalked x tops e k d t (gives_up act d.intents t.coord (Committing m)) M

-- An acknowledgement is taken: it is awaited no longer, and with the last one the record goes, and the end of its serializing
-- action is told to whom no other record lists.
abbrev pub AcksAreTaken : Type 0
AcksAreTaken = (x : ℕ) (tops : Kinds) (e k : ℕ) (d : Disk) (t : Parts) (from : ℕ) (act : Uid) (i : Intent) (M : Seen) → KnowsKinds tops →
    KnowsCoord tops d.intents t.coord
    → at_uid act t.coord.telling ≡ Some i → (W : World) → SeesDisks x tops W (up k d t M) → In (mail.Acked (uid_number act) from) W.sent
    → let r = acked_left act i d.intents t.coord (without_number from i.nodes) in
    Walks (IsSeenByDisks x tops) e k r.outs (Up (IsSeenByDisks x tops) k (with_coord t r.part)) d M

-- an action of this node that has begun: in this incarnation it has its place
pub record HasBegunHere (k : ℕ) (c : Coord) (act : Uid) : Type 0 where
  pub here : act.node ≡ k
  pub past : IsFuture c act → ⊥
  pub there : is_own act c.tree ≡ true → (b : Branch) × (branch_of act c.tree ≡ Some b)

-- A question about an action of this node that has begun is answered.
abbrev pub QueriesAreAnswered : Type 0
QueriesAreAnswered = (x : ℕ) (tops : Kinds) (e k : ℕ) (d : Disk) (t : Parts) (from : ℕ) (act : Uid) (M : Seen) → KnowsKinds tops →
    KnowsCoord tops d.intents t.coord → HasBegunHere k t.coord act
    → (W : World) → SeesDisks x tops W (up k d t M) →
    Walks (IsSeenByDisks x tops) e k (answer_query from act d.intents t.coord) (Up (IsSeenByDisks x tops) k t) d M

-- An open action that waits for nothing calls an object, and includes a store.
abbrev pub CallsBegin : Type 0
CallsBegin = (x : ℕ) (tops : Kinds) (e k : ℕ) (d : Disk) (t : Parts) (act : Uid) (b : Branch) (q : Doing) (y : ℕ) (o : Op) (M : Seen) →
    KnowsCoord tops d.intents t.coord
    → branch_of act t.coord.tree ≡ Some b → b.ended ≡ None → doing_of act t.coord ≡ Some q → q.now ≡ Idle → (W : World) →
    SeesDisks x tops W (up k d t M) → DidIsWalked x tops e k d t (call b.path y o t.coord) M

-- an open action that waits for nothing includes a store
abbrev pub IncludesBegin : Type 0
IncludesBegin = (x : ℕ) (tops : Kinds) (e k : ℕ) (d : Disk) (t : Parts) (act : Uid) (b : Branch) (q : Doing) (y s : ℕ) (M : Seen) →
    KnowsCoord tops d.intents t.coord
    → branch_of act t.coord.tree ≡ Some b → b.ended ≡ None → doing_of act t.coord ≡ Some q → q.now ≡ Idle → (W : World) →
    SeesDisks x tops W (up k d t M) → DidIsWalked x tops e k d t (include b.path y s t.coord) M

-- An answer to a call or an include is taken, and one is given up.
abbrev pub CallsAreHeard : Type 0
CallsAreHeard = (x : ℕ) (tops : Kinds) (e k : ℕ) (d : Disk) (t : Parts) (from : ℕ) (act : Uid) (q : Doing) (s : Steps) (r : Reply)
    (M : Seen) → KnowsCoord tops d.intents t.coord
    → doing_of act t.coord ≡ Some q → q.now ≡ Calling s → (W : World) → SeesDisks x tops W (up k d t M) → ClaimsReply x W from act r →
    DidIsWalked x tops e k d t (heard_call s r t.coord) M

-- a call or an include is given up
abbrev pub CallsAreGivenUp : Type 0
CallsAreGivenUp = (x : ℕ) (tops : Kinds) (e k : ℕ) (d : Disk) (t : Parts) (act : Uid) (q : Doing) (s : Steps) (M : Seen) →
    KnowsCoord tops d.intents t.coord
    → doing_of act t.coord ≡ Some q → q.now ≡ Calling s → (W : World) → SeesDisks x tops W (up k d t M) →
    DidIsWalked x tops e k d t (gives_up act d.intents t.coord (Calling s)) M

-- An action begins, of a kind that its path fits.
abbrev pub ActionsBegin : Type 0
ActionsBegin = (x : ℕ) (tops : Kinds) (e k : ℕ) (d : Disk) (t : Parts) (l : Label) (g : Labelled) (how : Kind) (parent : Option Label)
    (above : Option Branch) (M : Seen) → KnowsCoord tops d.intents t.coord
    → IsOfKind tops (next_uid t.coord.tree) how (path_below how above (next_uid t.coord.tree)) → (W : World) →
    SeesDisks x tops W (up k d t M) → DidIsWalked x tops e k d t (begin_action l how parent above t.coord) (given l g M)

-- A tick sends again what waits: requests, tolds that aren't acknowledged, and questions about actions that have begun.
abbrev pub TicksAreWalked : Type 0
TicksAreWalked = (x : ℕ) (tops : Kinds) (e k : ℕ) (d : Disk) (t : Parts) (M : Seen) → KnowsCoord tops d.intents t.coord →
    AllByRecursion (λ u. was_begun u M.lines ≡ true) (holders d t) → (W : World) → SeesDisks x tops W (up k d t M)
    → Walks (IsSeenByDisks x tops) e k (tick_outs (record { number = k; disk = d; live = Some t }) t)
    (Up (IsSeenByDisks x tops) k (with_coord t (again_all t.coord.doings t.coord).part)) d M

-- A node restarts: its incarnation rises on the disk, the tops of its records are decided, and all nodes are told, asked and
-- greeted. Who has something prepared there has begun.
abbrev pub RestartsAreWalked : Type 0
RestartsAreWalked = (x : ℕ) (tops : Kinds) (e k : ℕ) (hd : Header) (d : Disk) (M : Seen) → AllByRecursion (λ u. was_begun u M.lines ≡ true)
    (uid_set (prepared_actions d.store ++ prepared_actions d.names)) → ((u : Uid) (i : Intent) → at_uid u d.intents ≡ Some i →
    may_note tops.walk (Decides (uid_number u)) ≡ true) → (W : World) → SeesDisks x tops W (down k d M)
    → Walks (IsSeenByDisks x tops) e k (restart_outs hd k (d.inc + 1) d) (Up (IsSeenByDisks x tops) k (parts_in k (d.inc + 1) d)) d M

-- An end that naming is told, to be acknowledged or not: its own entries end, and with the end of a serializing action those of
-- its constituents. Who loses its row by the end of another action is a constituent of that one.
abbrev pub AreOrphansOf : Kinds → Uid → Disk → Naming → Type 0
AreOrphansOf tops u d n = AllByRecursion (λ (a : Uid). (tops.root (uid_number a) ≡ uid_number u) × (tops.is_top (uid_number u) ≡ false)
    × (tops.is_serial (uid_number u) ≡ true)) (orphans u d.names n)

-- naming is told of an end
abbrev pub NamingIsTold : Type 0
NamingIsTold = (x : ℕ) (tops : Kinds) (e : ℕ) (d : Disk) (t v : Parts) (n : Naming) (from : ℕ) (ack : Bool) (ends : List (Uid × End))
    (u : Uid) (how : End) (outs : List Effect) (M : Seen) → t.naming ≡ Some n → AreOrphansOf tops u d n →
    (ack ≡ true → may_note tops.walk (Acks (uid_number u)) ≡ true)
    → (W : World) → SeesDisks x tops W (up 1 d t M) → ClaimsLast tops W 1 ack (Some (u, how)) →
    handle_told 1 d t from ack ends u how ≡ Took v outs → Walks (IsSeenByDisks x tops) e 1 outs (Up (IsSeenByDisks x tops) 1 v) d M

-- The machine has confirmed a Confirm that naming checked anew, and naming's half has had no part in what it did since.
abbrev pub IsConfirmedNow : ℕ → Kinds → ℕ → World → Seen → Type 0
IsConfirmedNow x tops t W N =
    (f : machine.Effect) × IsConfirmation t f × Allowed W f × IsSeenByDisks x (followed tops (after W f) (λ n. false)) N

-- A Confirm's walk: naming's half has no part in what the machine does before it confirms, nor afterwards; and naming's part at
-- the end tells whether it did.
abbrev pub ConfirmsWalkOnce : Type 0
ConfirmsWalkOnce = (x : ℕ) (tops : Kinds) (e : ℕ) (d : Disk) (t v : Parts) (n : Naming) (from : ℕ) (h : Head) (grants : Grants)
    (excluded included : Marks) (outs : List Effect) (M : Seen) → t.naming ≡ Some n
    → (W : World) → SeesDisks x tops W (up 1 d t M) → ClaimsAsk x W 1 h (ask.Confirm grants excluded included) →
    (IsNewConfirm h.path grants excluded included d.names n → IsBooked W.disk (uid_number (top_of h.path)))
    → serve 1 d t from h (ask.Confirm grants excluded included) ≡ Took v outs
    → Walks (λ N. IsSeenByDisks x (followed tops W (λ n. false)) N
    ⊎ (IsNewConfirm h.path grants excluded included d.names n × IsConfirmedNow x tops (uid_number (top_of h.path)) W N)) e 1 outs
    (λ c N. ((o : Naming) × (v ≡ with_naming t o) × IsUnconfirmed h.path grants excluded included d.names n o
    × IsSeenByDisks x (followed tops W (λ n. false)) (up 1 c v N))
    ⊎ (IsNewConfirm h.path grants excluded included d.names n × (v ≡ with_naming t (confirms (top_of h.path)
    (with_locks h.path grants excluded d.names n))) × IsConfirmedNow x tops (uid_number (top_of h.path)) W (up 1 c v N))) d M

-- A Confirm is taken at naming: answered Yes again, refused, or checked anew and then, as one that changes nothing, that wrote,
-- or that changes the list, with its entries prepared where there are any. A new one is booked.
abbrev pub ConfirmsAreWalked : Type 0
ConfirmsAreWalked = (x : ℕ) (tops : Kinds) (e : ℕ) (d : Disk) (t v : Parts) (n : Naming) (from : ℕ) (h : Head) (grants : Grants)
    (excluded included : Marks) (outs : List Effect) (M : Seen) → t.naming ≡ Some n →
    may_note tops.walk (Confirms (uid_number (top_of h.path))) ≡ true
    → (W : World) → SeesDisks x tops W (up 1 d t M) → ClaimsAsk x W 1 h (ask.Confirm grants excluded included) →
    (IsNewConfirm h.path grants excluded included d.names n → IsBooked W.disk (uid_number (top_of h.path)))
    → serve 1 d t from h (ask.Confirm grants excluded included) ≡ Took v outs →
    Walks (IsSeenByDisks x tops) e 1 outs (Up (IsSeenByDisks x tops) 1 v) d M

-- ---- whole inputs and messages

-- The beginning of the commit may be noted, of an action that is to commit, or whose step is given up.
abbrev pub NotesInput : Option Walk → Coord → Input → Type 0
NotesInput o c i = (l : Label) (b : Branch) → (i ≡ input.Commit l) ⊎ (i ≡ input.GiveUp l) → branch_named l c ≡ Some b →
    may_note o (Begins (uid_number (actor b.path))) ≡ true

-- An input about an action that isn't refused keeps the disk half.
abbrev pub ActsAreWalked : Type 0
ActsAreWalked = (hd : Header) (x : ℕ) (tops : Kinds) (e k : ℕ) (d : Disk) (t : Parts) (i : Input) (M : Seen) → KnowsKinds tops →
    KnowsCoord tops d.intents t.coord → is_act i ≡ true → refusal_up hd i t.coord ≡ None → NotesInput tops.walk t.coord i
    → (W : World) → SeesDisks x tops W (up k d t M) → DidIsWalked x tops e k d t (acts i d.intents t.coord) M

-- What is known at a node that takes a message: the coordinator's part; that who holds something there has begun; and that
-- questions are about actions of the node that have begun; naming is at node 1, and rows that it drops with another action's end
-- are of that one's constituents; and the node is in no incarnation before that in which actions of the run first begin.
pub record KnowsNode (tops : Kinds) (k : ℕ) (d : Disk) (t : Parts) (M : Seen) : Type 0 where
  pub kinds : KnowsKinds tops
  pub coord : KnowsCoord tops d.intents t.coord
  pub begun : AllByRecursion (λ u. was_begun u M.lines ≡ true) (holders d t)
  pub asked : (from : ℕ) (act : Uid) → seen.In (record { from = from; to = k; message = message.Query (record { act = act }) }) M.sent →
      HasBegunHere k t.coord act
  pub elsewhere : t.naming ≡ None → (k == 1) ≡ false
  pub naming_here : (n : Naming) → t.naming ≡ Some n → (k ≡ 1) × ((u : Uid) → AreOrphansOf tops u d n)
  pub since : next_inc M.start k ≤ d.inc

-- a Confirm that naming checks anew is booked
abbrev pub ConfirmsAreBooked : Disk → Parts → World → Option (Head × Ask) → Type 0
ConfirmsAreBooked d t W (Some (h, ask.Confirm grants excluded included)) = (n : Naming) → t.naming ≡ Some n →
    IsNewConfirm h.path grants excluded included d.names n → IsBooked W.disk (uid_number (top_of h.path))
ConfirmsAreBooked d t W _ = ⊤

-- What may be noted with a message: that the top is confirmed whose Confirm it is, that the commit begins or is decided that is
-- answered, and that naming acknowledges an end where it is to.
pub record NotesMessage (o : Option Walk) (c : Coord) (m : Message) : Type 0 where
  pub asker : (h : Head) (grants : Grants) (excluded included : Marks) → asks m ≡ Some (h, ask.Confirm grants excluded included) →
      may_note o (Confirms (uid_number (top_of h.path))) ≡ true
  pub answered : (a : Asked) (r : Reply) (q : Doing) (z : commit.Machine) → answers m ≡ Some (a, r) → doing_of a.act c ≡ Some q →
      q.now ≡ Committing z → MayCommit o z (uid_number a.act)
  pub told : (root : Uid) (ack : Bool) (ends : List (Uid × End)) (u : Uid) (how : End) →
      m ≡ message.Told (record { root = root; ack = ack; ends = ends }) → last_end ends ≡ Some (u, how) → ack ≡ true →
      may_note o (Acks (uid_number u)) ≡ true

-- A message that was sent is taken, whichever it is.
abbrev pub MessagesAreWalked : Type 0
MessagesAreWalked = (x : ℕ) (tops : Kinds) (e k : ℕ) (d : Disk) (t v : Parts) (from : ℕ) (m : Message) (outs : List Effect) (M : Seen) →
    KnowsNode tops k d t M → NotesMessage tops.walk t.coord m → seen.In (record { from = from; to = k; message = m }) M.sent
    → (W : World) → SeesDisks x tops W (up k d t M) → ConfirmsAreBooked d t W (asks m) → handle k d t from m ≡ Took v outs →
    Walks (IsSeenByDisks x tops) e k outs (Up (IsSeenByDisks x tops) k v) d M
