-- What a coordinator does, as a trace of small steps, each with its reason. Reasons speak of the coordinator as it was when what came came
-- to it.
-- `Walks` shows that each handler is a trace; a law on coordinators shows what the small steps do with it, and takes the rest from here.
use Rattle.arj_law_parts.proofs.Words
use Words.{◌≡◌, ◌⊎◌, ◌+◌, ℕ, List, [], ◌∷◌, ◌++◌, true, false, Option, Some, None, AllByRecursion, In, Uid, End, Kind, Path, Op, Body}
use Words.{Cause, Label, ObjectState, Ask, Asked, uids_of, request, Reply, actor, began_line, begin_action, call_steps, renewed, next_req}
use Words.{last_req, root_heard, root_moved, root_lost, kept_at, end_line, commits_in, waits_for_call, waits_for_commit, is_invoke_ask}
use Words.{Steps, At, CallStep, On, Ended, CallEnd, Lost, Moved, answered, given_up, next_node, next_ask, start, Plan, Machine, Stays, Asks}
use Words.{Decides, Aborts, Marked, plan_of, left_of, ask_of, participants, has_record, servers_of, targets_of, nodes_given_up, further}
use Words.{marks_store, with_states, Coord, Doing, Now, Idle, Calling, Committing, Keeping, doing_of, on_doing, on_root, root_at}
use Words.{keeping_of, is_free, nodes_sent, servers_told, plan_for, with_keeping, with_went, Effect, Say, Send, Do, PutIntent, RemoveIntent}
use Words.{Intent, tell, up_to, is_deferred, ended, root_after, let_go, at_uid, has, put_uid, unbound, with_number, without_number}
use Words.{without_uid, Input, branch_named, parent_of, Branch, branch_of, next_uid, ends_of, is_nested, root_of, open_below}
use Words.{uses_object, doomed_at, is_serial, is_empty}
use Words.body
use Words.cause
use Words.ending
use Words.kind
use Words.voted
use Words.prepared
use Words.confirmed
use Words.calls
use Words.commit
use Words.input
use Rattle.arj_law_parts.proofs.Terms.{is_over}

-- What comes to a coordinator: an input, an answer, an acknowledgement, a tick. With the records on its disk, where they matter.
pub data Came : Type 0 where
  Takes : Input → List (Uid × Intent) → Came
  Hears : ℕ → Asked → Reply → List (Uid × Intent) → Came
  IsAcked : ℕ → Uid → List (Uid × Intent) → Came
  Ticks : Came

abbrev pub intents_of : Came → List (Uid × Intent)
intents_of (Takes i intents) = intents
intents_of (Hears from a r intents) = intents
intents_of (IsAcked from u intents) = intents
intents_of Ticks = []

-- ---- calls and includes

-- what the answer to a call or an include leads to
abbrev pub turned : Steps → Reply → Coord → Moved
turned s r c = answered (is_free (root_of s.path) (actor s.path) s.x c) (kept_at s c) s.goal s.at r

-- A call that waits is answered, or given up: what comes next, and the coordinator once the root has noted it.
pub data CallTurn (c : Coord) : Came → Steps → CallStep → Coord → Type 0 where
  Answers : (from : ℕ) (a : Asked) (r : Reply) (intents : List (Uid × Intent)) (d : Doing) (s : Steps) → doing_of a.act c ≡ Some d →
      d.now ≡ Calling s → waits_for_call from a r s ≡ true
      → CallTurn c (Hears from a r intents) s (turned s r c).step (on_root (root_of s.path) (root_moved s r (turned s r c)) c)
  GivesUp : (l : Label) (b : Branch) (intents : List (Uid × Intent)) (d : Doing) (s : Steps) → branch_named l c ≡ Some b →
      doing_of (actor b.path) c ≡ Some d → d.now ≡ Calling s
      → CallTurn c (Takes (input.GiveUp l) intents) s (given_up s.at) (on_root (root_of s.path) (root_lost s (given_up s.at)) c)

-- what is kept of the object of a call that begins
abbrev pub kept_at_start : Path → ℕ → Coord → Keeping
kept_at_start p x c = let k = keeping_of x (root_at (root_of p) c) in renewed (is_free (root_of p) (actor p) x c) k k.kept

-- the coordinator as a call begins: the root uses the object, and has looked at what it keeps
abbrev pub used_at : Path → ℕ → Coord → Coord
used_at p x c = record c { tree = uses_object p x c.tree }

abbrev pub renewed_at : Path → ℕ → Coord → Coord
renewed_at p x c = on_root (root_of p) (with_keeping x (kept_at_start p x c)) (used_at p x c)

-- The action waits in these steps of a call, from this coordinator on or still.
pub data Calls (c : Coord) : Came → Coord → Uid → Steps → Type 0 where
  StartsCall : (l : Label) (x : ℕ) (o : Op) (b : Branch) (intents : List (Uid × Intent)) → branch_named l c ≡ Some b
      → Calls c (Takes (input.Call l x o) intents) (renewed_at b.path x c) (actor b.path)
      (call_steps b.path x o (next_req (actor b.path) c) (root_at (root_of b.path) c) c (kept_at_start b.path x c))
  StartsInclude : (l : Label) (x store : ℕ) (b : Branch) (intents : List (Uid × Intent)) → branch_named l c ≡ Some b
      → Calls c (Takes (input.Include l x store) intents) (used_at b.path x c) (actor b.path)
      (start b.path x (calls.Include store) None unbound (next_req (actor b.path) c))
  GoesOn : {came : Came} (s : Steps) (t : CallStep) (e : Coord) (at : At) → CallTurn c came s t e → t ≡ On at →
      Calls c came e (actor s.path) (record s { req = s.req + 1; at = at })
  CallsAgain : (u : Uid) (d : Doing) (s : Steps) → doing_of u c ≡ Some d → d.now ≡ Calling s → Calls c Ticks c u s

-- ---- commits

-- A commit begins, is answered, or is given up: what comes next.
pub data CommitTurn (c : Coord) : Came → Uid → Marked → Type 0 where
  BeginsCommit : (l : Label) (b : Branch) (intents : List (Uid × Intent)) → branch_named l c ≡ Some b → b.doomed ≡ false →
      is_nested b.kind ≡ false → is_serial b.kind ≡ false
      → CommitTurn c (Takes (input.Commit l) intents) (actor b.path)
      (commit.start (plan_for b.path (last_req (doing_of (actor b.path) c)) (root_at (root_of b.path) c) c))
  AnswersCommit : (from : ℕ) (a : Asked) (r : Reply) (intents : List (Uid × Intent)) (d : Doing) (m : Machine) → doing_of a.act c ≡ Some d →
      d.now ≡ Committing m → waits_for_commit from a r m ≡ true
      → CommitTurn c (Hears from a r intents) a.act (commit.answered from m r)
  GivesCommitUp : (l : Label) (b : Branch) (intents : List (Uid × Intent)) (d : Doing) (m : Machine) → branch_named l c ≡ Some b →
      doing_of (actor b.path) c ≡ Some d → d.now ≡ Committing m
      → CommitTurn c (Takes (input.GiveUp l) intents) (actor b.path) (commit.given_up m)

-- the plan that a commit has as it turns, with the nodes that haven't answered
pub data PlanFrom (c : Coord) : Came → Uid → Plan → List ℕ → Type 0 where
  NewPlan : (l : Label) (b : Branch) (intents : List (Uid × Intent)) → branch_named l c ≡ Some b
      → PlanFrom c (Takes (input.Commit l) intents) (actor b.path)
      (plan_for b.path (last_req (doing_of (actor b.path) c)) (root_at (root_of b.path) c) c) []
  OldPlan : {came : Came} (u : Uid) (d : Doing) (m : Machine) → doing_of u c ≡ Some d → d.now ≡ Committing m →
      PlanFrom c came u (plan_of m) (left_of m)

-- whom the next step of a commit asks: the servers, the stores, or naming
pub data IsAsked (p : Plan) : List ℕ → Type 0 where
  OfServers : (ns : List ℕ) → ns ≡ servers_of p → IsAsked p ns
  OfStores : (ns : List ℕ) → ns ≡ targets_of p → IsAsked p ns
  OfNaming : IsAsked p (1 ∷ [])

-- a small step of a plan
pub data PlanMove : Came → Plan → Plan → Type 0 where
  Votes : (from : ℕ) (a : Asked) (intents : List (Uid × Intent)) (p : Plan) (states : List ObjectState)
      → PlanMove (Hears from a (Reply.Voted (voted.Yes states)) intents) p (record p { changed = with_states states p.changed })
  Prepares : (from : ℕ) (a : Asked) (intents : List (Uid × Intent)) (p : Plan)
      → PlanMove (Hears from a (Reply.Prepared prepared.Yes) intents) p (record p { prepared = with_number from p.prepared })
  Confirms : (from : ℕ) (a : Asked) (intents : List (Uid × Intent)) (p : Plan) →
      PlanMove (Hears from a (Reply.Confirmed confirmed.Yes) intents) p (record p { confirmed = true })
  Marks : {came : Came} (n : ℕ) (p : Plan) → PlanMove came p (marks_store n p)
  GoesFurther : {came : Came} (ns : List ℕ) (p : Plan) → IsAsked p ns → PlanMove came p (further ns p)

-- a plan comes from another by small steps
pub data Plans (came : Came) (p : Plan) : Plan → Type 0 where
  SamePlan : Plans came p p
  MovesPlan : (q r : Plan) → Plans came p q → PlanMove came q r → Plans came p r

-- the nodes for which a commit waits then: those that its next step asks, or those that are left
pub data Whom (came : Came) (p : Plan) (left : List ℕ) : List ℕ → Type 0 where
  AsksThem : (q : Plan) (ns : List ℕ) → Plans came p q → IsAsked q ns → Whom came p left ns
  ButOne : (from : ℕ) → Whom came p left (without_number from left)
  StillAll : Whom came p left left
  NoneLeft : Whom came p left []

-- the commit of the action waits with this from now on
pub record CommitOn (c : Coord) (came : Came) (u : Uid) (m : Machine) : Type 0 where
  pub turn : Marked
  pub turns : CommitTurn c came u turn
  pub on : (turn.step ≡ Stays m) ⊎ (turn.step ≡ Asks m)
  pub before : Plan
  pub waited : List ℕ
  pub from : PlanFrom c came u before waited
  pub plans : Plans came before (plan_of m)
  pub whom : Whom came before waited (left_of m)
  pub left : is_empty (left_of m) ≡ false

-- the commit of the action is decided by this plan
pub record CommitEnds (c : Coord) (came : Came) (u : Uid) (p : Plan) : Type 0 where
  pub turn : Marked
  pub turns : CommitTurn c came u turn
  pub decides : turn.step ≡ Decides p
  pub before : Plan
  pub waited : List ℕ
  pub from : PlanFrom c came u before waited
  pub plans : Plans came before p

-- the commit of an action waits with this from now on, or still
pub data Commits (c : Coord) : Came → Uid → Machine → Type 0 where
  CommitsOn : {came : Came} (u : Uid) (m : Machine) → CommitOn c came u m → Commits c came u m
  CommitsAgain : (u : Uid) (d : Doing) (m : Machine) → doing_of u c ≡ Some d → d.now ≡ Committing m → Commits c Ticks u m

-- ---- ends

-- An action ends so, with this line.
pub data Ends (c : Coord) : Came → Uid → End → (Label → Body) → Type 0 where
  EndsNested : (l : Label) (b : Branch) (intents : List (Uid × Intent)) → branch_named l c ≡ Some b → b.doomed ≡ false →
      b.kind ≡ kind.Nested
      → Ends c (Takes (input.Commit l) intents) (actor b.path) ending.Commit body.Committed
  EndsSerial : (l : Label) (b : Branch) (intents : List (Uid × Intent)) → branch_named l c ≡ Some b → b.doomed ≡ false →
      b.kind ≡ kind.Serial
      → Ends c (Takes (input.Commit l) intents) (actor b.path) ending.Commit body.Ended
  EndsDoomed : (l : Label) (b : Branch) (intents : List (Uid × Intent)) → branch_named l c ≡ Some b → b.doomed ≡ true
      → Ends c (Takes (input.Commit l) intents) (actor b.path) ending.Abort (λ k. body.Aborted k cause.Doomed)
  EndsAsked : (l : Label) (b : Branch) (intents : List (Uid × Intent)) (u : Uid) → branch_named l c ≡ Some b →
      In u (open_below (actor b.path) c.tree ++ actor b.path ∷ [])
      → Ends c (Takes (input.Abort l) intents) u ending.Abort (λ k. body.Aborted k cause.Asked)
  EndsFailed : {came : Came} (u : Uid) (k : Marked) (why : Cause) (p : Plan) → CommitTurn c came u k → k.step ≡ Aborts why p →
      Ends c came u ending.Abort (λ l. body.Aborted l why)
  EndsDecided : {came : Came} (u : Uid) (p : Plan) → CommitEnds c came u p → Ends c came (actor p.path) ending.Commit body.Committed

-- ---- what is said and asked

-- a line about an action
pub data Lines (c : Coord) : Came → Uid → (Label → Body) → Type 0 where
  CallEnds : {came : Came} (s : Steps) (t : CallStep) (e : Coord) (g : CallEnd) → CallTurn c came s t e → t ≡ Ended g →
      Lines c came (actor s.path) (end_line s.x s.goal g)
  Excludes : {came : Came} (u : Uid) (k : Marked) (m : ℕ × ℕ) → CommitTurn c came u k → In m k.marks →
      Lines c came u (λ l. body.Excluded l m.0 m.1)
  GaveUpCall : (l : Label) (b : Branch) (intents : List (Uid × Intent)) (d : Doing) (s : Steps) → branch_named l c ≡ Some b →
      doing_of (actor b.path) c ≡ Some d → d.now ≡ Calling s
      → Lines c (Takes (input.GiveUp l) intents) (actor b.path) (λ k. body.GaveUp k (next_node s))
  GaveUpCommit : (l : Label) (b : Branch) (intents : List (Uid × Intent)) (d : Doing) (m : Machine) (n : ℕ) → branch_named l c ≡ Some b →
      doing_of (actor b.path) c ≡ Some d → d.now ≡ Committing m → In n (nodes_given_up m)
      → Lines c (Takes (input.GiveUp l) intents) (actor b.path) (λ k. body.GaveUp k n)
  CommitBegins : (l : Label) (b : Branch) (intents : List (Uid × Intent)) → branch_named l c ≡ Some b → b.doomed ≡ false →
      is_nested b.kind ≡ false → is_serial b.kind ≡ false
      → Lines c (Takes (input.Commit l) intents) (actor b.path) body.Committing
  ActionEnds : {came : Came} (u : Uid) (how : End) (f : Label → Body) → Ends c came u how f → Lines c came u f

-- the action, where it is at work, waits so
abbrev pub IsAt : Coord → Uid → Now → Type 0
IsAt e u n = (d : Doing) → doing_of u e ≡ Some d → d.now ≡ n

-- the action, where it is there, has ended so
abbrev pub IsEndedSo : Coord → Uid → End → Type 0
IsEndedSo e u how = (b : Branch) → branch_of u e.tree ≡ Some b → b.ended ≡ Some how

-- A request: of an action with this path, by this number, to a node. The action waits for its answer.
pub data Requests (c : Coord) : Came → Coord → Path → ℕ → ℕ → Ask → Type 0 where
  OfCall : {came : Came} (u : Uid) (s : Steps) (f e : Coord) → Calls c came f u s → e.tree ≡ f.tree → IsAt e u (Calling s) →
      Requests c came e s.path s.req (next_node s) (next_ask (ends_of (root_of s.path) e.tree) s)
  OfCommit : {came : Came} (u : Uid) (m : Machine) (n : ℕ) (e : Coord) → Commits c came u m → In n (left_of m) → e.tree ≡ c.tree →
      IsAt e u (Committing m) → Requests c came e (plan_of m).path (plan_of m).req n (ask_of m n)

-- ---- small steps

-- the coordinator once a call has ended, and once its root has noted that
abbrev pub rested : Steps → Coord → Coord
rested s c = on_doing (actor s.path) (λ (d : Doing). record d { now = Idle }) c

abbrev pub noted : Steps → CallEnd → Coord → Coord
noted s g c = on_root (root_of s.path) (root_heard s g) (rested s c)

-- the coordinator once a commit is decided: who took part, and once its root has noted that
abbrev pub took_part : Plan → Coord → Coord
took_part p c = on_doing (actor p.path) (λ (d : Doing). record d { took = participants p }) (ended (actor p.path) ending.Commit c)

abbrev pub settled_by : Plan → Coord → Coord
settled_by p c = on_root (root_of p.path) (root_after p) (took_part p c)

-- A small step of a coordinator. Those that lead on from the coordinator as it was say so.
pub data Move (c : Coord) : Came → Coord → Coord → Type 0 where
  -- actions, and the objects that they use
  Begins : (l : Label) (k : Kind) (parent : Option Label) (intents : List (Uid × Intent)) →
      Move c (Takes (input.Begin l k parent) intents) c (begin_action l k parent (parent_of parent c) c).part
  Uses : {came : Came} (l : Label) (b : Branch) (x : ℕ) → branch_named l c ≡ Some b → Move c came c (used_at b.path x c)
  -- what waits, and what the root keeps
  Renews : {came : Came} (p : Path) (x : ℕ) → Move c came (used_at p x c) (renewed_at p x c)
  Waits : {came : Came} (s : Steps) (e : Coord) → Calls c came e (actor s.path) s →
      Move c came e (on_doing (actor s.path) (λ (d : Doing). record d { req = s.req; now = Calling s }) e)
  Turns : {came : Came} (s : Steps) (t : CallStep) (e : Coord) → CallTurn c came s t e → Move c came c e
  Rests : {came : Came} (s : Steps) (t : CallStep) (e : Coord) (g : CallEnd) → CallTurn c came s t e → t ≡ Ended g →
      Move c came e (rested s e)
  Notes : {came : Came} (s : Steps) (t : CallStep) (e : Coord) (g : CallEnd) → CallTurn c came s t e → t ≡ Ended g →
      Move c came (rested s e) (noted s g e)
  Dooms : {came : Came} (s : Steps) (t : CallStep) (e : Coord) (n : ℕ) → CallTurn c came s t e → t ≡ Ended (Lost n true)
      → Move c came (noted s (Lost n true) e)
      (record (noted s (Lost n true) e) { tree = doomed_at (actor s.path) (noted s (Lost n true) e).tree })
  CommitsIn : {came : Came} (u : Uid) (m : Machine) → CommitOn c came u m → Move c came c (commits_in u m c)
  -- ends and decisions
  EndsAt : {came : Came} (u : Uid) (how : End) (f : Label → Body) (e : Coord) → Ends c came u how f → Move c came e (ended u how e)
  TakesPart : {came : Came} (u : Uid) (p : Plan) → CommitEnds c came u p →
      Move c came (ended (actor p.path) ending.Commit c) (took_part p c)
  KeepsAfter : {came : Came} (u : Uid) (p : Plan) → CommitEnds c came u p → Move c came (took_part p c) (settled_by p c)
  Awaits : {came : Came} (u : Uid) (p : Plan) → CommitEnds c came u p → has_record p ≡ true
      → Move c came (settled_by p c) (record (settled_by p c)
      { telling = put_uid (actor p.path) (record { root = root_of p.path; nodes = participants p }) (settled_by p c).telling })
  -- a request is noted
  SentTo : {came : Came} (p : Path) (req n : ℕ) (a : Ask) (e : Coord) → Requests c came e p req n a →
      Move c came e (on_root (root_of p) (with_went (record { path = uids_of p; node = n; invoke = is_invoke_ask a })) e)
  -- acknowledgements
  LastAck : (from : ℕ) (u : Uid) (intents : List (Uid × Intent)) (i : Intent) → at_uid u c.telling ≡ Some i → has i.nodes from ≡ true →
      without_number from i.nodes ≡ []
      → Move c (IsAcked from u intents) c (record c { telling = without_uid u c.telling })
  SomeAck : (from : ℕ) (u : Uid) (intents : List (Uid × Intent)) (i : Intent) (n : ℕ) (ns : List ℕ) → at_uid u c.telling ≡ Some i →
      has i.nodes from ≡ true → without_number from i.nodes ≡ n ∷ ns
      → Move c (IsAcked from u intents) c (record c { telling = put_uid u (record i { nodes = n ∷ ns }) c.telling })

-- What a coordinator puts out, as it is then.
pub data Out (c : Coord) : Came → Coord → Effect → Type 0 where
  -- lines
  SaysBegan : (l : Label) (k : Kind) (parent : Option Label) (intents : List (Uid × Intent)) →
      Out c (Takes (input.Begin l k parent) intents) c (Say (began_line l k (next_uid c.tree) parent))
  Says : {came : Came} (u : Uid) (f : Label → Body) (d : Doing) (e : Coord) → Lines c came u f → doing_of u e ≡ Some d →
      Out c came e (Say (f d.label))
  -- tolds of ends
  TellsNested : {came : Came} (u : Uid) (how : End) (f : Label → Body) (b : Branch) (n : ℕ) (e : Coord) → Ends c came u how f →
      IsEndedSo e u how → branch_of u e.tree ≡ Some b → b.kind ≡ kind.Nested
      → In n (servers_told u (root_at (root_of b.path) e) e) →
      Out c came e (tell (root_of b.path) false (up_to u (ends_of (root_of b.path) e.tree)) n)
  TellsSerial : {came : Came} (u : Uid) (how : End) (f : Label → Body) (b : Branch) (n : ℕ) (e : Coord) → Ends c came u how f →
      IsEndedSo e u how → branch_of u e.tree ≡ Some b → b.kind ≡ kind.Serial
      → In n (nodes_sent u (root_at u e)) → is_deferred u (intents_of came) n ≡ false →
      Out c came e (tell u false ((u, ending.Abort) ∷ []) n)
  TellsTop : {came : Came} (u : Uid) (how : End) (f : Label → Body) (b : Branch) (n : ℕ) (e : Coord) → Ends c came u how f →
      IsEndedSo e u how → branch_of u e.tree ≡ Some b → is_nested b.kind ≡ false → is_serial b.kind ≡ false
      → In n (nodes_sent u (root_at (root_of b.path) e)) → Out c came e (tell (root_of b.path) false ((u, ending.Abort) ∷ []) n)
  -- a decision: its record, and its tolds
  PutsRecord : {came : Came} (u : Uid) (p : Plan) → CommitEnds c came u p → has_record p ≡ true →
      Out c came c (Do (PutIntent (actor p.path) (record { root = root_of p.path; nodes = participants p })))
  TellsCommitted : {came : Came} (u : Uid) (p : Plan) (n : ℕ) (e : Coord) → CommitEnds c came u p → In n p.sent →
      has (participants p) n ≡ true
      → Out c came e (tell (root_of p.path) (has_record p) ((actor p.path, ending.Commit) ∷ []) n)
  TellsLeft : {came : Came} (u : Uid) (p : Plan) (n : ℕ) (e : Coord) → CommitEnds c came u p → In n p.sent → has (participants p) n ≡ false
      → Out c came e (tell (root_of p.path) false ((actor p.path, ending.Abort) ∷ []) n)
  -- acknowledgements
  RemovesRecord : (from : ℕ) (u : Uid) (intents : List (Uid × Intent)) (i : Intent) → at_uid u c.telling ≡ Some i →
      has i.nodes from ≡ true → without_number from i.nodes ≡ []
      → Out c (IsAcked from u intents) c (Do (RemoveIntent u))
  TellsLetGo : (from : ℕ) (u : Uid) (intents : List (Uid × Intent)) (i : Intent) (n : ℕ) (e : Coord) → at_uid u intents ≡ Some i →
      is_over (branch_of i.root e.tree) ≡ true
      → In n (let_go i.root (without_uid u intents) e i.nodes) →
      Out c (IsAcked from u intents) e (tell i.root false ((i.root, ending.Abort) ∷ []) n)
  -- requests, once noted
  AsksIt : {came : Came} (p : Path) (req n : ℕ) (a : Ask) (e : Coord) → Requests c came e p req n a
      → Out c came (on_root (root_of p) (with_went (record { path = uids_of p; node = n; invoke = is_invoke_ask a })) e)
      (Send n (request (record { path = p; req = req }) a))

-- What a coordinator did: its small steps and what it put out, in order, from one coordinator to another.
pub data Trace (c : Coord) (came : Came) : Coord → List Effect → Coord → Type 0 where
  Done : (e : Coord) → Trace c came e [] e
  Goes : {outs : List Effect} (e f g : Coord) → Move c came e f → Trace c came f outs g → Trace c came e outs g
  Puts : {outs : List Effect} (x : Effect) (e g : Coord) → Out c came e x → Trace c came e outs g → Trace c came e (x ∷ outs) g

-- ---- what holds along a trace

module _ {c : Coord} {came : Came} (P : Coord → Type 0) (move : (e f : Coord) → Move c came e f → P e → P f) where
  -- what each small step keeps is kept
  pub trace_keeps : {e g : Coord} {outs : List Effect} → Trace c came e outs g → P e → P g
  trace_keeps (Done e) h = h
  trace_keeps (Goes e f g m t) h = trace_keeps t (move e f m h)
  trace_keeps (Puts x e g o t) h = trace_keeps t h

  -- and this holds of all that is put out
  pub trace_says : (E : Effect → Type 0) → ((e : Coord) (x : Effect) → Out c came e x → P e → E x) → {e g : Coord} {outs : List Effect} →
      Trace c came e outs g → P e → P g × AllByRecursion E outs
  trace_says E out (Done e) h = (h, tt)
  trace_says E out (Goes e f g m t) h = trace_says E out t (move e f m h)
  trace_says E out (Puts x e g o t) h = let r = trace_says E out t h in (r.0, (out e x o h, r.1))

  module _ (E : Coord → Effect → Type 0) (out : (e : Coord) (x : Effect) → Out c came e x → P e →
      E e x) (later : (e f : Coord) (x : Effect) → Move c came e f → P e → E e x → E f x) where
    -- what holds of an effect and the coordinator that put it out, and goes on to hold once the coordinator goes on
    still : {e g : Coord} {outs : List Effect} (x : Effect) → Trace c came e outs g → P e → E e x → E g x
    still x (Done e) h k = k
    still x (Goes e f g m t) h k = still x t (move e f m h) (later e f x m h k)
    still x (Puts y e g o t) h k = still x t h k

    pub trace_tells : {e g : Coord} {outs : List Effect} → Trace c came e outs g → P e → P g × AllByRecursion (E g) outs
    trace_tells (Done e) h = (h, tt)
    trace_tells (Goes e f g m t) h = trace_tells t (move e f m h)
    trace_tells (Puts x e g o t) h = let r = trace_tells t h in (r.0, (still x t h (out e x o h), r.1))

-- ---- traces put together

module _ {c : Coord} {came : Came} where
  pub along : {e f g : Coord} {xs ys : List Effect} → Trace c came e xs f → Trace c came f ys g → Trace c came e (xs ++ ys) g
  along (Done e) t = t
  along (Goes e f g m s) t = Goes e f _ m (along s t)
  along (Puts x e g o s) t = Puts x e _ o (along s t)

-- small steps of a plan keep this of it
pub plan_keeps : {came : Came} (Q : Plan → Type 0) → ((p q : Plan) → PlanMove came p q → Q p → Q q) → {p q : Plan} → Plans came p q → Q p →
    Q q
plan_keeps Q move SamePlan h = h
plan_keeps Q move (MovesPlan q r t m) h = move q r m (plan_keeps Q move t h)
