-- Each handler of a coordinator is a trace of small steps (`Trace`).
use Rattle.arj_law_parts.proofs.Words
use Words.{◌≡◌, ◌≢◌, ◌+◌, ◌==◌, arith, ℕ, List, [], ◌∷◌, ◌++◌, Bool, true, false, cond, not, ◌&&◌, map, filter, Option, Some, None, refl}
use Words.{sym, ◌∙◌, ap, subst, inl, inr, ⊎_elim, flat_map, and_parts, uid_cases, In, in_filter, Uid, End, Kind, Path, Op, Body, Label, Ask}
use Words.{Asked, uids_of, uid_eq, Reply, actor, asks_node, asks_all, asks_step, goes_on, call, include, call_steps, next_req, last_req}
use Words.{doomed_by, step_call, heard_call, end_line, commits_in, asks_machine, step_commit, moved_commit, commit_top, commit_open}
use Words.{commit_action, waits_for_call, waits_for_commit, heard_none, heard_by, heard_now, heard_doing, heard, gives_up, give_up_doing}
use Words.{give_up, again_now, again_all, begin_action, is_invoke_ask, Steps, CallStep, On, Ended, CallEnd, Answered, Included, Conflict}
use Words.{Changed, Lost, given_up, next_node, next_ask, start, Used, Plan, Machine, Voting, Preparing, Confirming, CommitStep, Stays, Asks}
use Words.{Decides, Aborts, Marked, plan_of, left_of, participants, has_record, ask_of, servers_of, nodes_given_up, begin_confirm}
use Words.{begin_prepare, begin_vote, further, stores_left, votes_left, marks_store, marks_stores, targets_of, with_states, Coord}
use Words.{Doing, Now, Idle, Calling, Committing, Went, doing_of, change_doing, set_doing, on_doing, on_root, root_at, nodes_sent}
use Words.{servers_told, plan_for, with_went, Effect, Say, Do, PutIntent, Intent, Did, Served, says, say_for, tell, tell_all, up_to}
use Words.{is_deferred, tolds_by, tolds_of_branch, tolds_of, ended, ends_with, aborts_with, all_aborted, abort_action, decided_told, decide}
use Words.{acked, acked_by, acked_left, let_go, tolds_let_go, at_uid, has, put_uid, unbound, without_number, with_number, without_uid}
use Words.{Input, acts, branch_named, on_branch, parent_of, Tree, Branch, branch_of, is_own, is_nested, at_place, set_place}
use Words.{ends_of, root_of, open_below, doomed_at, ended_at, ended_branch, is_serial, is_empty}
use Words.body
use Words.cause
use Words.ending
use Words.kind
use Words.voted
use Words.prepared
use Words.confirmed
use Words.calls
use Words.commit
use Words.input
use Rattle.arj_law_parts.proofs.Terms.{is_over}
use Rattle.arj_law_parts.proofs.coordinator
use coordinator.Trace.{Came, Takes, Hears, IsAcked, Ticks, intents_of, turned, CallTurn, Answers, GivesUp, kept_at_start, used_at}
use coordinator.Trace.{renewed_at, Calls, StartsCall, StartsInclude, GoesOn, CallsAgain, CommitTurn, BeginsCommit, AnswersCommit}
use coordinator.Trace.{GivesCommitUp, PlanFrom, OfServers, OfStores, OfNaming, Whom, AsksThem, ButOne, StillAll, NoneLeft, NewPlan, OldPlan}
use coordinator.Trace.{Votes, Prepares, Confirms, Marks, GoesFurther, Plans, SamePlan, MovesPlan, CommitOn, CommitEnds, Commits, CommitsOn}
use coordinator.Trace.{CommitsAgain, Ends, EndsNested, EndsSerial, EndsDoomed, EndsAsked, EndsFailed, EndsDecided, Lines, CallEnds}
use coordinator.Trace.{Excludes, GaveUpCall, GaveUpCommit, CommitBegins, ActionEnds, IsAt, IsEndedSo, Requests, OfCall, OfCommit, rested}
use coordinator.Trace.{noted, took_part, settled_by, Begins, Uses, Renews, Waits, Turns, Rests, Notes, Dooms, CommitsIn, EndsAt, TakesPart}
use coordinator.Trace.{KeepsAfter, Awaits, SentTo, LastAck, SomeAck, Out, SaysBegan, Says, TellsNested, TellsSerial, TellsTop, PutsRecord}
use coordinator.Trace.{TellsCommitted, TellsLeft, RemovesRecord, TellsLetGo, AsksIt, Trace, Done, Goes, Puts, along}
use Rattle.arj_law_parts.proofs.parts.GoodTrees.{placed, place_same, at_u, at_others}

some_is : {A : Type 0} {a b : A} → Some a ≡ Some b → a ≡ b
some_is {A} {a} {b} is = let k : ◌≡◌ {A = Option A} (Some a) (Some b) = is in cc

-- ---- what an action is at, and how it ended

own_doing : (u : Uid) (c : Coord) (d : Doing) → doing_of u c ≡ Some d → (is_own u c.tree ≡ true) × (at_place u.num c.doings ≡ Some d)
own_doing u c d is = by (is_own u c.tree) refl is
  where
    by : (o : Bool) → is_own u c.tree ≡ o → cond o (at_place u.num c.doings) None ≡ Some d → (o ≡ true) × (at_place u.num c.doings ≡ Some d)
    by true own e = (refl, e)
    by false own e = let no_way : ◌≡◌ {A = Option Doing} None (Some d) = e in cc

-- what an action is at once that was changed
at_doing : (u : Uid) (f : Doing → Doing) (c : Coord) (d : Doing) → doing_of u (on_doing u f c) ≡ Some d → (old : Doing) × (f old ≡ d)
at_doing u f c d = by (doing_of u c) refl
  where
    by : (o : Option Doing) → doing_of u c ≡ o → doing_of u (change_doing f u c o) ≡ Some d → (old : Doing) × (f old ≡ d)
    by None none is = let no_way : ◌≡◌ {A = Option Doing} None (Some d) = sym none ∙ is in absurd (cc no_way)
    by (Some old) found is =
        let own = own_doing u c old found in
        let put : doing_of u (set_doing u (f old) c) ≡ Some (f old) =
        (λ i. cond (own.0 i) (at_place u.num (set_place u.num (f old) c.doings)) None) ∙ place_same u.num (f old) old c.doings own.1 in
        (old, some_is (sym put ∙ is))

is_at : (u : Uid) (f : Doing → Doing) (n : Now) (c : Coord) → ((d : Doing) → (f d).now ≡ n) → IsAt (on_doing u f c) u n
is_at u f n c its d is = let k = at_doing u f c d is in ap (λ (q : Doing). q.now) (sym k.1) ∙ its k.0

tree_same : (u : Uid) (f : Doing → Doing) (c : Coord) → (on_doing u f c).tree ≡ c.tree
tree_same u f c = by (doing_of u c)
  where
    by : (o : Option Doing) → (change_doing f u c o).tree ≡ c.tree
    by None = refl
    by (Some d) = refl

-- the action has ended so
tree_ended : (u : Uid) (how : End) (t : Tree) (b : Branch) → branch_of u (ended_at u how t) ≡ Some b → b.ended ≡ Some how
tree_ended u how t b = by (branch_of u t) refl
  where
    by : (o : Option Branch) → branch_of u t ≡ o → branch_of u (ended_branch u how t o) ≡ Some b → b.ended ≡ Some how
    by None none is = let no_way : ◌≡◌ {A = Option Branch} None (Some b) = sym none ∙ is in absurd (cc no_way)
    by (Some old) found is = ap (λ (q : Branch). q.ended) (sym (some_is (sym (at_u u how t old found) ∙ is)))

tree_still : (u w : Uid) (how : End) (t : Tree) (b : Branch) → w ≢ u → branch_of w (ended_at u how t) ≡ Some b → branch_of w t ≡ Some b
tree_still u w how t b other = by (branch_of u t) refl
  where
    by : (o : Option Branch) → branch_of u t ≡ o → branch_of w (ended_branch u how t o) ≡ Some b → branch_of w t ≡ Some b
    by None none is = is
    by (Some old) found is = sym (at_others u how t old found w other) ∙ is

ended_tree : (u : Uid) (how : End) (c : Coord) → (ended u how c).tree ≡ ended_at u how c.tree
ended_tree u how c = tree_same u (λ (d : Doing). record d { now = Idle }) (record c { tree = ended_at u how c.tree })

is_ended : (u : Uid) (how : End) (c : Coord) → IsEndedSo (ended u how c) u how
is_ended u how c b is = tree_ended u how c.tree b (ap (λ t. branch_of u t) (sym (ended_tree u how c)) ∙ is)

-- an abort leaves it
still_aborted : (u w : Uid) (c : Coord) → IsEndedSo c w ending.Abort → IsEndedSo (ended u ending.Abort c) w ending.Abort
still_aborted u w c was b is = ⊎_elim
    (λ same. is_ended u ending.Abort c b (ap (λ v. branch_of v (ended u ending.Abort c).tree) (sym same) ∙ is))
    (λ other. was b (tree_still u w ending.Abort c.tree b other (ap (λ t. branch_of w t) (sym (ended_tree u ending.Abort c)) ∙ is)))
    (uid_cases w u)

all_stay_aborted : (us : List Uid) (w : Uid) (c : Coord) → IsEndedSo c w ending.Abort → IsEndedSo (all_aborted us c).part w ending.Abort
all_stay_aborted [] w c was = was
all_stay_aborted (u ∷ us) w c was = all_stay_aborted us w (ended u ending.Abort c) (still_aborted u w c was)

all_ended : (us : List Uid) (w : Uid) (c : Coord) → In w us → IsEndedSo (all_aborted us c).part w ending.Abort
all_ended [] w c i = absurd i
all_ended (u ∷ us) w c (inl same) = all_stay_aborted us w (ended u ending.Abort c)
    (subst (λ v. IsEndedSo (ended u ending.Abort c) v ending.Abort) same (is_ended u ending.Abort c))
all_ended (u ∷ us) w c (inr i) = all_ended us w (ended u ending.Abort c) i

-- ---- a step of a commit, by its plan

module _ (came : Came) (p : Plan) (left : List ℕ) where
  -- what a step leads to has a plan that comes from this one
  abbrev pub Leads : CommitStep → Type 0
  Leads (Stays m) = Plans came p (plan_of m) × Whom came p left (left_of m) × (is_empty (left_of m) ≡ false)
  Leads (Asks m) = Plans came p (plan_of m) × Whom came p left (left_of m) × (is_empty (left_of m) ≡ false)
  Leads (Decides q) = Plans came p q
  Leads (Aborts why q) = Plans came p q

  confirms : (us : List Used) (q : Plan) → Plans came p q → Leads (begin_confirm us q)
  confirms [] q so = so
  confirms (u ∷ us) q so = (MovesPlan q (further (1 ∷ []) q) so (GoesFurther (1 ∷ []) q OfNaming), AsksThem q (1 ∷ []) so OfNaming, refl)

  prepares : (ns : List ℕ) (q : Plan) → ns ≡ targets_of q → Plans came p q → Leads (begin_prepare ns q)
  prepares [] q is so = confirms q.used q so
  prepares (n ∷ ns) q is so = (
    MovesPlan q (further (n ∷ ns) q) so (GoesFurther (n ∷ ns) q (OfStores (n ∷ ns) is)),
    AsksThem q (n ∷ ns) so (OfStores (n ∷ ns) is),
    refl,
  )

  votes : (ns : List ℕ) (q : Plan) → ns ≡ servers_of q → Plans came p q → Leads (begin_vote ns q)
  votes [] q is so = prepares (targets_of q) q refl so
  votes (n ∷ ns) q is so = (
    MovesPlan q (further (n ∷ ns) q) so (GoesFurther (n ∷ ns) q (OfServers (n ∷ ns) is)),
    AsksThem q (n ∷ ns) so (OfServers (n ∷ ns) is),
    refl,
  )

  stores_end : (ns : List ℕ) (q : Plan) → Plans came p q → Whom came p left ns → Leads (stores_left ns q).step
  stores_end [] q so whom = confirms q.used q so
  stores_end (n ∷ ns) q so whom = (so, whom, refl)

  votes_end : (ns : List ℕ) (q : Plan) → Plans came p q → Whom came p left ns → Leads (votes_left ns q)
  votes_end [] q so whom = prepares (targets_of q) q refl so
  votes_end (n ∷ ns) q so whom = (so, whom, refl)

  marks : (ns : List ℕ) (q : Plan) → Plans came p q → Plans came p (marks_stores ns q)
  marks [] q so = so
  marks (n ∷ ns) q so = marks ns (marks_store n q) (MovesPlan q (marks_store n q) so (Marks n q))

some_left : (ns : List ℕ) (n : ℕ) → has ns n ≡ true → is_empty ns ≡ false
some_left [] n is = let no_way : false ≡ true = is in cc
some_left (m ∷ ms) n is = refl

pub leads_answered : (from : ℕ) (m : Machine) (a : Asked) (r : Reply) (intents : List (Uid × Intent)) → has (left_of m) from ≡ true
    → Leads (Hears from a r intents) (plan_of m) (left_of m) (commit.answered from m r).step
leads_answered from (Voting p left) a (Reply.Voted (voted.Yes states)) intents some =
    let q : Plan = record p { changed = with_states states p.changed } in
    votes_end (Hears from a (Reply.Voted (voted.Yes states)) intents) p left (without_number from left) q
    (MovesPlan p q SamePlan (Votes from a intents p states)) (ButOne from)
leads_answered from (Voting p left) a (Reply.Voted (voted.Changed d)) intents some = SamePlan
leads_answered from (Preparing p left) a (Reply.Prepared prepared.Yes) intents some =
    let q : Plan = record p { prepared = with_number from p.prepared } in
    stores_end (Hears from a (Reply.Prepared prepared.Yes) intents) p left (without_number from left) q
    (MovesPlan p q SamePlan (Prepares from a intents p)) (ButOne from)
leads_answered from (Preparing p left) a (Reply.Prepared (prepared.InDoubt x holder)) intents some =
    stores_end (Hears from a (Reply.Prepared (prepared.InDoubt x holder)) intents) p left (without_number from left) (marks_store from p)
    (MovesPlan p (marks_store from p) SamePlan (Marks from p)) (ButOne from)
leads_answered from (Preparing p left) a (Reply.Prepared (prepared.Old x v)) intents some = SamePlan
leads_answered from (Confirming p) a (Reply.Confirmed confirmed.Yes) intents some =
    MovesPlan p (record p { confirmed = true }) SamePlan (Confirms from a intents p)
leads_answered from (Confirming p) a (Reply.Confirmed _) intents some = SamePlan
leads_answered from m a r intents some = (SamePlan, StillAll, some_left (left_of m) from some)

pub leads_given_up : (came : Came) (m : Machine) → Leads came (plan_of m) (left_of m) (commit.given_up m).step
leads_given_up came (Voting p left) = SamePlan
leads_given_up came (Preparing p left) = stores_end came p left [] (marks_stores left p) (marks came p left left p SamePlan) NoneLeft
leads_given_up came (Confirming p) = SamePlan

waiting_has : (from : ℕ) (a : Asked) (r : Reply) (m : Machine) → waits_for_commit from a r m ≡ true → has (left_of m) from ≡ true
waiting_has from a r m is = (and_parts _ _ (and_parts _ _ is).1).1

module _ (c : Coord) where
  -- ---- requests

  module _ (came : Came) where
    -- the action wherever it is at work waits with this, as it did before
    asks_one : (p : Path) (req : ℕ) (a : ℕ × Ask) (e : Coord) → Requests c came e p req a.0 a.1 →
        Trace c came e (asks_node p req a e).outs (asks_node p req a e).part
    asks_one p req a e q = Goes e (asks_node p req a e).part _ (SentTo p req a.0 a.1 e q)
        (Puts _ (asks_node p req a e).part _ (AsksIt p req a.0 a.1 e q) (Done (asks_node p req a e).part))

    asks_call : (u : Uid) (s : Steps) (f e : Coord) → Calls c came f u s → e.tree ≡ f.tree → IsAt e u (Calling s) →
        Trace c came e (asks_step s e).outs (asks_step s e).part
    asks_call u s f e is tree at =
        asks_one s.path s.req (next_node s, next_ask (ends_of (root_of s.path) e.tree) s) e (OfCall u s f e is tree at)

    asks_commit : (u : Uid) (m : Machine) (e : Coord) → Commits c came u m → e.tree ≡ c.tree → IsAt e u (Committing m) →
        Trace c came e (asks_machine m e).outs (asks_machine m e).part
    asks_commit u m e is tree at = each (left_of m) e (λ n i. i) tree at
      where
        each : (ns : List ℕ) (f : Coord) → ((n : ℕ) → In n ns → In n (left_of m)) → f.tree ≡ c.tree → IsAt f u (Committing m)
            → let d = asks_all (plan_of m).path (plan_of m).req (map {A = ℕ} {B = ℕ × Ask} (λ n. (n, ask_of m n)) ns) f in
            Trace c came f d.outs d.part
        each [] f their same here = Done f
        each (n ∷ ns) f their same here =
            along (asks_one (plan_of m).path (plan_of m).req (n, ask_of m n) f (OfCommit u m n f is (their n (inl refl)) same here))
            (each ns (asks_node (plan_of m).path (plan_of m).req (n, ask_of m n) f).part (λ k i. their k (inr i)) same here)

    -- ---- lines and tolds

    says_then : (u : Uid) (f : Label → Body) (e g : Coord) → Lines c came u f → Trace c came e [] g → Trace c came e (says u f e) g
    says_then u f e g line rest = by (doing_of u e) refl
      where
        by : (o : Option Doing) → doing_of u e ≡ o → Trace c came e (say_for f o) g
        by None none = rest
        by (Some d) found = Puts (Say (f d.label)) e g (Says u f d e line found) rest

    says_so : (u : Uid) (f : Label → Body) (e : Coord) → Lines c came u f → Trace c came e (says u f e) e
    says_so u f e line = says_then u f e e line (Done e)

    each_so : {A : Type 0} (f : A → List Effect) (xs : List A) (e : Coord) → ((x : A) → In x xs → Trace c came e (f x) e) →
        Trace c came e (flat_map f xs) e
    each_so f [] e its = Done e
    each_so f (x ∷ xs) e its = along (its x (inl refl)) (each_so f xs e (λ y i. its y (inr i)))

    puts_each : {A : Type 0} (f : A → Effect) (xs : List A) (e : Coord) → ((x : A) → In x xs → Out c came e (f x)) →
        Trace c came e (map f xs) e
    puts_each f [] e its = Done e
    puts_each f (x ∷ xs) e its = Puts (f x) e e (its x (inl refl)) (puts_each f xs e (λ y i. its y (inr i)))

    tolds_so : (u : Uid) (how : End) (f : Label → Body) (e : Coord) → Ends c came u how f → IsEndedSo e u how →
        Trace c came e (tolds_of (intents_of came) e u) e
    tolds_so u how f e ends over = by (branch_of u e.tree) refl
      where
        deferred : (b : Bool) → not b ≡ true → b ≡ false
        deferred true is = let no_way : false ≡ true = is in cc
        deferred false is = refl

        top : (b : Branch) → branch_of u e.tree ≡ Some b → is_nested b.kind ≡ false → is_serial b.kind ≡ false →
            Trace c came e (tell_all (root_of b.path) false ((u, ending.Abort) ∷ []) (nodes_sent u (root_at (root_of b.path) e))) e
        top b found nested serial = puts_each (tell (root_of b.path) false ((u, ending.Abort) ∷ []))
            (nodes_sent u (root_at (root_of b.path) e)) e (λ n i. TellsTop u how f b n e ends over found nested serial i)

        kinds : (b : Branch) → branch_of u e.tree ≡ Some b → (k : Kind) → b.kind ≡ k →
            Trace c came e (tolds_by u k b.path (intents_of came) e) e
        kinds b found kind.Nested is = puts_each (tell (root_of b.path) false (up_to u (ends_of (root_of b.path) e.tree)))
            (servers_told u (root_at (root_of b.path) e) e) e (λ n i. TellsNested u how f b n e ends over found is i)
        kinds b found kind.Serial is = puts_each (tell u false ((u, ending.Abort) ∷ []))
            (filter (λ n. not (is_deferred u (intents_of came) n)) (nodes_sent u (root_at u e))) e
            (λ n i. let k = in_filter (λ j. not (is_deferred u (intents_of came) j)) n (nodes_sent u (root_at u e)) i in
            TellsSerial u how f b n e ends over found is k.0 (deferred (is_deferred u (intents_of came) n) k.1))
        kinds b found kind.Top is = top b found (ap is_nested is) (ap is_serial is)
        kinds b found kind.Independent is = top b found (ap is_nested is) (ap is_serial is)
        kinds b found kind.Constituent is = top b found (ap is_nested is) (ap is_serial is)

        by : (o : Option Branch) → branch_of u e.tree ≡ o → Trace c came e (tolds_of_branch u (intents_of came) e o) e
        by None none = Done e
        by (Some b) found = kinds b found b.kind refl

    ends_so : (u : Uid) (how : End) (f : Label → Body) (e : Coord) → Ends c came u how f → let d = ends_with u how f (intents_of came) e in
        Trace c came e d.outs d.part
    ends_so u how f e ends = along (says_so u f e (ActionEnds u how f ends))
        (Goes e (ended u how e) _ (EndsAt u how f e ends) (tolds_so u how f (ended u how e) ends (is_ended u how e)))

    -- ---- steps of calls

    goes_so : (s : Steps) (e : Coord) → Calls c came e (actor s.path) s → Trace c came e (goes_on s e).outs (goes_on s e).part
    goes_so s e is =
        let f = on_doing (actor s.path) (λ (d : Doing). record d { req = s.req; now = Calling s }) e in
        Goes e f _ (Waits s e is)
        (asks_call (actor s.path) s e f is (tree_same (actor s.path) (λ (d : Doing). record d { req = s.req; now = Calling s }) e)
        (is_at (actor s.path) (λ (d : Doing). record d { req = s.req; now = Calling s }) (Calling s) e (λ d. refl)))

    turns_so : (s : Steps) (t : CallStep) (e : Coord) → CallTurn c came s t e → (k : CallStep) → t ≡ k →
        Trace c came c (step_call s k e).outs (step_call s k e).part
    turns_so s t e turn (On at) is =
        Goes c e _ (Turns s t e turn) (goes_so (record s { req = s.req + 1; at = at }) e (GoesOn s t e at turn is))
    turns_so s t e turn (Ended g) is =
        Goes c e _ (Turns s t e turn) (says_then (actor s.path) (end_line s.x s.goal g) e _ (CallEnds s t e g turn is)
        (Goes e (rested s e) _ (Rests s t e g turn is) (Goes (rested s e) (noted s g e) _ (Notes s t e g turn is) (dooms g is))))
      where
        dooms : (h : CallEnd) → t ≡ Ended h → Trace c came (noted s h e) [] (doomed_by (actor s.path) h (noted s h e))
        dooms (Lost n true) so = let f = noted s (Lost n true) e in
            Goes f (record f { tree = doomed_at (actor s.path) f.tree }) _ (Dooms s t e n turn so) (Done _)
        dooms (Lost n false) so = Done (noted s (Lost n false) e)
        dooms (Answered a) so = Done (noted s (Answered a) e)
        dooms (Included st) so = Done (noted s (Included st) e)
        dooms (Conflict h x n) so = Done (noted s (Conflict h x n) e)
        dooms (Changed n w) so = Done (noted s (Changed n w) e)

    -- ---- steps of commits

    decides_so : (u : Uid) (p : Plan) → CommitEnds c came u p → Trace c came c (decide p c).outs (decide p c).part
    decides_so u p ends = along (along (works (has_record p) refl)
        (says_so (actor p.path) body.Committed c (ActionEnds (actor p.path) ending.Commit body.Committed (EndsDecided u p ends))))
        (Goes c (ended (actor p.path) ending.Commit c) _ (EndsAt (actor p.path) ending.Commit body.Committed c (EndsDecided u p ends))
        (Goes (ended (actor p.path) ending.Commit c) (took_part p c) _ (TakesPart u p ends)
        (Goes (took_part p c) (settled_by p c) _ (KeepsAfter u p ends) (waits (has_record p) refl))))
      where
        i : Intent
        i = record { root = root_of p.path; nodes = participants p }

        works : (b : Bool) → has_record p ≡ b → Trace c came c (cond b (Do (PutIntent (actor p.path) i) ∷ []) []) c
        works true is = Puts (Do (PutIntent (actor p.path) i)) c c (PutsRecord u p ends is) (Done c)
        works false is = Done c

        tolds : (e : Coord) → Trace c came e (map (decided_told (root_of p.path) (actor p.path) p) p.sent) e
        tolds e = puts_each (decided_told (root_of p.path) (actor p.path) p) p.sent e (λ n sent. one n sent (has (participants p) n) refl)
          where
            one : (n : ℕ) → In n p.sent → (b : Bool) → has (participants p) n ≡ b → Out c came e (cond b (tell (root_of p.path)
                (has_record p) ((actor p.path, ending.Commit) ∷ []) n) (tell (root_of p.path) false ((actor p.path, ending.Abort) ∷ []) n))
            one n sent true is = TellsCommitted u p n e ends sent is
            one n sent false is = TellsLeft u p n e ends sent is

        waits : (b : Bool) → has_record p ≡ b
            → let k = settled_by p c in Trace c came k (map (decided_told (root_of p.path) (actor p.path) p) p.sent)
            (cond b (record k { telling = put_uid (actor p.path) i k.telling }) k)
        waits true is = let k = settled_by p c in Goes k (record k { telling = put_uid (actor p.path) i k.telling }) _ (Awaits u p ends is)
            (tolds (record k { telling = put_uid (actor p.path) i k.telling }))
        waits false is = tolds (settled_by p c)

    commit_so : (u : Uid) (k : Marked) → CommitTurn c came u k → (before : Plan) (waited : List ℕ) → PlanFrom c came u before waited →
        (s : CommitStep) → k.step ≡ s → Leads came before waited s
        → let d = step_commit u s (intents_of came) c in Trace c came c d.outs d.part
    commit_so u k turns before waited from (Stays m) is leads = Goes c (commits_in u m c) _ (CommitsIn u m (record {
      turn = k;
      turns = turns;
      on = inl is;
      before = before;
      waited = waited;
      from = from;
      plans = leads.0;
      whom = leads.1;
      left = leads.2;
    })) (Done (commits_in u m c))
    commit_so u k turns before waited from (Asks m) is leads =
        let on : CommitOn c came u m = record {
          turn = k;
          turns = turns;
          on = inr is;
          before = before;
          waited = waited;
          from = from;
          plans = leads.0;
          whom = leads.1;
          left = leads.2;
        } in
        Goes c (commits_in u m c) _ (CommitsIn u m on) (asks_commit u m (commits_in u m c) (CommitsOn u m on)
        (tree_same u (λ (d : Doing). record d { req = (plan_of m).req; now = Committing m }) c)
        (is_at u (λ (d : Doing). record d { req = (plan_of m).req; now = Committing m }) (Committing m) c (λ d. refl)))
    commit_so u k turns before waited from (Decides p) is leads =
        decides_so u p (record { turn = k; turns = turns; decides = is; before = before; waited = waited; from = from; plans = leads })
    commit_so u k turns before waited from (Aborts why p) is leads =
        ends_so u ending.Abort (λ l. body.Aborted l why) c (EndsFailed u k why p turns is)

    moved_so : (u : Uid) (k : Marked) → CommitTurn c came u k → (before : Plan) (waited : List ℕ) → PlanFrom c came u before waited →
        Leads came before waited k.step → let d = moved_commit u k (intents_of came) c in Trace c came c d.outs d.part
    moved_so u k turns before waited from leads =
        along (each_so (λ (m : ℕ × ℕ). says u (λ l. body.Excluded l m.0 m.1) c) k.marks c (λ m i.
        says_so u (λ l. body.Excluded l m.0 m.1) c (Excludes u k m turns i))) (commit_so u k turns before waited from k.step refl leads)

  -- ---- an answer

  pub heard_trace : (from : ℕ) (a : Asked) (r : Reply) (intents : List (Uid × Intent)) → let d = heard from a r intents c in
      Trace c (Hears from a r intents) c d.outs d.part
  heard_trace from a r intents = by (doing_of a.act c) refl
    where
      now : (d : Doing) → doing_of a.act c ≡ Some d → (n : Now) → d.now ≡ n → let q = heard_now from a r intents c n in
          Trace c (Hears from a r intents) c q.outs q.part
      now d found Idle is = Done c
      now d found (Calling s) is = one (waits_for_call from a r s) refl
        where
          one : (w : Bool) → waits_for_call from a r s ≡ w → let q = cond {A = Served Coord (Unit {0})} w (heard_by (heard_call s r c))
              (heard_none c) in Trace c (Hears from a r intents) c q.outs q.part
          one true waits = turns_so (Hears from a r intents) s (turned s r c).step _ (Answers from a r intents d s found is waits)
              (turned s r c).step refl
          one false waits = Done c
      now d found (Committing m) is = one (waits_for_commit from a r m) refl
        where
          one : (w : Bool) → waits_for_commit from a r m ≡ w → let q = cond {A = Served Coord (Unit {0})} w (heard_by
              (moved_commit a.act (commit.answered from m r) intents c)) (heard_none c) in Trace c (Hears from a r intents) c q.outs q.part
          one true waits = moved_so (Hears from a r intents) a.act (commit.answered from m r) (AnswersCommit from a r intents d m found is
              waits) (plan_of m) (left_of m) (OldPlan a.act d m found is) (leads_answered from m a r intents (waiting_has from a r m waits))
          one false waits = Done c

      by : (o : Option Doing) → doing_of a.act c ≡ o → let q = heard_doing from a r intents c o in
          Trace c (Hears from a r intents) c q.outs q.part
      by None none = Done c
      by (Some d) found = now d found d.now refl

  -- ---- inputs

  give_up_so : (l : Label) (b : Branch) (intents : List (Uid × Intent)) → branch_named l c ≡ Some b →
      let d = give_up (actor b.path) intents c in Trace c (Takes (input.GiveUp l) intents) c d.outs d.part
  give_up_so l b intents named = by (doing_of (actor b.path) c) refl
    where
      came : Came
      came = Takes (input.GiveUp l) intents

      now : (d : Doing) → doing_of (actor b.path) c ≡ Some d → (n : Now) → d.now ≡ n → let q = gives_up (actor b.path) intents c n in
          Trace c (Takes (input.GiveUp l) intents) c q.outs q.part
      now d found Idle is = Done c
      now d found (Calling s) is = along
          (each_so (Takes (input.GiveUp l) intents) (λ n. says (actor b.path) (λ k. body.GaveUp k n) c) (next_node s ∷ []) c
          (λ n i. says_so (Takes (input.GiveUp l) intents) (actor b.path) (λ k. body.GaveUp k n) c (node n i)))
          (turns_so (Takes (input.GiveUp l) intents) s (given_up s.at) _ (GivesUp l b intents d s named found is) (given_up s.at) refl)
        where
          node : (n : ℕ) → In n (next_node s ∷ []) → Lines c (Takes (input.GiveUp l) intents) (actor b.path) (λ k. body.GaveUp k n)
          node n (inl same) = subst (λ j. Lines c (Takes (input.GiveUp l) intents) (actor b.path) (λ k. body.GaveUp k j)) same
              (GaveUpCall l b intents d s named found is)
          node n (inr no_way) = absurd no_way
      now d found (Committing m) is = along
          (each_so (Takes (input.GiveUp l) intents) (λ n. says (actor b.path) (λ k. body.GaveUp k n) c) (nodes_given_up m) c (λ n i. says_so
          (Takes (input.GiveUp l) intents) (actor b.path) (λ k. body.GaveUp k n) c (GaveUpCommit l b intents d m n named found is i)))
          (moved_so (Takes (input.GiveUp l) intents) (actor b.path) (commit.given_up m) (GivesCommitUp l b intents d m named found is)
          (plan_of m) (left_of m) (OldPlan (actor b.path) d m found is) (leads_given_up (Takes (input.GiveUp l) intents) m))

      by : (o : Option Doing) → doing_of (actor b.path) c ≡ o → let q = give_up_doing (actor b.path) intents c o in
          Trace c (Takes (input.GiveUp l) intents) c q.outs q.part
      by None none = Done c
      by (Some d) found = now d found d.now refl

  commit_action_so : (l : Label) (b : Branch) (intents : List (Uid × Intent)) → branch_named l c ≡ Some b →
      let d = commit_action b intents c in Trace c (Takes (input.Commit l) intents) c d.outs d.part
  commit_action_so l b intents named = by b.doomed refl
    where
      plan : Plan
      plan = plan_for b.path (last_req (doing_of (actor b.path) c)) (root_at (root_of b.path) c) c

      top : b.doomed ≡ false → is_nested b.kind ≡ false → is_serial b.kind ≡ false → let d = commit_top b.path intents c in
          Trace c (Takes (input.Commit l) intents) c d.outs d.part
      top sound nested serial = along
          (says_so (Takes (input.Commit l) intents) (actor b.path) body.Committing c (CommitBegins l b intents named sound nested serial))
          (moved_so (Takes (input.Commit l) intents) (actor b.path) (commit.start plan) (BeginsCommit l b intents named sound nested serial)
          plan [] (NewPlan l b intents named) (votes (Takes (input.Commit l) intents) plan [] (servers_of plan) plan refl SamePlan))

      kinds : b.doomed ≡ false → (k : Kind) → b.kind ≡ k → let d = commit_open b intents c k in
          Trace c (Takes (input.Commit l) intents) c d.outs d.part
      kinds sound kind.Nested is =
          ends_so (Takes (input.Commit l) intents) (actor b.path) ending.Commit body.Committed c (EndsNested l b intents named sound is)
      kinds sound kind.Serial is =
          ends_so (Takes (input.Commit l) intents) (actor b.path) ending.Commit body.Ended c (EndsSerial l b intents named sound is)
      kinds sound kind.Top is = top sound (ap is_nested is) (ap is_serial is)
      kinds sound kind.Independent is = top sound (ap is_nested is) (ap is_serial is)
      kinds sound kind.Constituent is = top sound (ap is_nested is) (ap is_serial is)

      by : (w : Bool) → b.doomed ≡ w → let d = cond {A = Did Coord} w (aborts_with (actor b.path) cause.Doomed intents c)
          (commit_open b intents c b.kind) in Trace c (Takes (input.Commit l) intents) c d.outs d.part
      by true is = ends_so (Takes (input.Commit l) intents) (actor b.path) ending.Abort (λ k. body.Aborted k cause.Doomed) c
          (EndsDoomed l b intents named is)
      by false is = kinds is b.kind refl

  abort_so : (l : Label) (b : Branch) (intents : List (Uid × Intent)) → branch_named l c ≡ Some b →
      let d = abort_action (actor b.path) intents c in Trace c (Takes (input.Abort l) intents) c d.outs d.part
  abort_so l b intents named = along (each us c (λ u i. i))
      (each_so (Takes (input.Abort l) intents) (tolds_of intents t.part) us t.part (λ u i. tolds_so (Takes (input.Abort l) intents) u
      ending.Abort (λ k. body.Aborted k cause.Asked) t.part (EndsAsked l b intents u named i) (all_ended us u c i)))
    where
      us : List Uid
      us = open_below (actor b.path) c.tree ++ actor b.path ∷ []

      t : Did Coord
      t = all_aborted (open_below (actor b.path) c.tree ++ actor b.path ∷ []) c

      each : (ws : List Uid) (e : Coord) → ((u : Uid) → In u ws → In u (open_below (actor b.path) c.tree ++ actor b.path ∷ [])) →
          let d = all_aborted ws e in Trace c (Takes (input.Abort l) intents) e d.outs d.part
      each [] e their = Done e
      each (u ∷ ws) e their =
          let ends : Ends c (Takes (input.Abort l) intents) u ending.Abort (λ k. body.Aborted k cause.Asked) = EndsAsked l b intents u named
          (their u (inl refl)) in
          along (says_so (Takes (input.Abort l) intents) u (λ k. body.Aborted k cause.Asked) e
          (ActionEnds u ending.Abort (λ k. body.Aborted k cause.Asked) ends)) (Goes e (ended u ending.Abort e) _ (EndsAt u ending.Abort
          (λ k. body.Aborted k cause.Asked) e ends) (each ws (ended u ending.Abort e) (λ w i. their w (inr i))))

  call_so : (l : Label) (x : ℕ) (o : Op) (b : Branch) (intents : List (Uid × Intent)) → branch_named l c ≡ Some b →
      let d = call b.path x o c in Trace c (Takes (input.Call l x o) intents) c d.outs d.part
  call_so l x o b intents named =
      Goes c (used_at b.path x c) _ (Uses l b x named) (Goes (used_at b.path x c) (renewed_at b.path x c) _ (Renews b.path x)
      (goes_so (Takes (input.Call l x o) intents) (call_steps b.path x o (next_req (actor b.path) c) (root_at (root_of b.path) c) c
      (kept_at_start b.path x c)) (renewed_at b.path x c) (StartsCall l x o b intents named)))

  include_so : (l : Label) (x s : ℕ) (b : Branch) (intents : List (Uid × Intent)) → branch_named l c ≡ Some b →
      let d = include b.path x s c in Trace c (Takes (input.Include l x s) intents) c d.outs d.part
  include_so l x s b intents named = Goes c (used_at b.path x c) _ (Uses l b x named)
      (goes_so (Takes (input.Include l x s) intents) (start b.path x (calls.Include s) None unbound (next_req (actor b.path) c))
      (used_at b.path x c) (StartsInclude l x s b intents named))

  on_named : (came : Came) (f : Branch → Did Coord) (o : Option Branch) →
      ((b : Branch) → o ≡ Some b → Trace c came c (f b).outs (f b).part) → let d = on_branch f c o in Trace c came c d.outs d.part
  on_named came f None each = Done c
  on_named came f (Some b) each = each b refl

  pub acts_trace : (i : Input) (intents : List (Uid × Intent)) → let d = acts i intents c in Trace c (Takes i intents) c d.outs d.part
  acts_trace (input.Begin l k parent) intents = Puts _ c _ (SaysBegan l k parent intents) (Goes c (begin_action l k parent
      (parent_of parent c) c).part _ (Begins l k parent intents) (Done (begin_action l k parent (parent_of parent c) c).part))
  acts_trace (input.Call l x o) intents =
      on_named (Takes (input.Call l x o) intents) (λ b. call b.path x o c) (branch_named l c) (λ b named. call_so l x o b intents named)
  acts_trace (input.Include l x s) intents = on_named (Takes (input.Include l x s) intents) (λ b. include b.path x s c) (branch_named l c)
      (λ b named. include_so l x s b intents named)
  acts_trace (input.Commit l) intents = on_named (Takes (input.Commit l) intents) (λ b. commit_action b intents c) (branch_named l c)
      (λ b named. commit_action_so l b intents named)
  acts_trace (input.Abort l) intents = on_named (Takes (input.Abort l) intents) (λ b. abort_action (actor b.path) intents c)
      (branch_named l c) (λ b named. abort_so l b intents named)
  acts_trace (input.GiveUp l) intents = on_named (Takes (input.GiveUp l) intents) (λ b. give_up (actor b.path) intents c) (branch_named l c)
      (λ b named. give_up_so l b intents named)
  acts_trace _ intents = Done c

  -- ---- acknowledgements

  pub acked_trace : (from : ℕ) (u : Uid) (intents : List (Uid × Intent)) → let d = acked from u intents c in
      Trace c (IsAcked from u intents) c d.outs d.part
  acked_trace from u intents = by (at_uid u c.telling) refl
    where
      go : (e : Coord) (o : Option Intent) → at_uid u intents ≡ o →
          Trace c (IsAcked from u intents) e (tolds_let_go u (without_uid u intents) e o) e
      go e None none = Done e
      go e (Some i) found = one (not (uid_eq i.root u)) (is_over (branch_of i.root e.tree)) refl
        where
          one : (a b : Bool) → is_over (branch_of i.root e.tree) ≡ b → Trace c (IsAcked from u intents) e
              (cond (a && b) (tell_all i.root false ((i.root, ending.Abort) ∷ []) (let_go i.root (without_uid u intents) e i.nodes)) []) e
          one true true over = puts_each (IsAcked from u intents) (tell i.root false ((i.root, ending.Abort) ∷ []))
              (let_go i.root (without_uid u intents) e i.nodes) e (λ n j. TellsLetGo from u intents i n e found over j)
          one true false over = Done e
          one false b over = Done e

      left : (i : Intent) → at_uid u c.telling ≡ Some i → has i.nodes from ≡ true → (ns : List ℕ) → without_number from i.nodes ≡ ns →
          let d = acked_left u i intents c ns in Trace c (IsAcked from u intents) c d.outs d.part
      left i found there [] none =
          Puts _ c _ (RemovesRecord from u intents i found there none) (Goes c (record c { telling = without_uid u c.telling })
          _ (LastAck from u intents i found there none) (go (record c { telling = without_uid u c.telling }) (at_uid u intents) refl))
      left i found there (n ∷ ns) some = Goes c (record c { telling = put_uid u (record i { nodes = n ∷ ns }) c.telling })
          _ (SomeAck from u intents i n ns found there some) (Done _)

      by : (o : Option Intent) → at_uid u c.telling ≡ o → let d = acked_by from u intents c o in
          Trace c (IsAcked from u intents) c d.outs d.part
      by None none = Done c
      by (Some i) found = one (has i.nodes from) refl
        where
          one : (b : Bool) → has i.nodes from ≡ b → let d = cond {A = Served Coord (Unit {0})} b (acked_left u i intents c (without_number
              from i.nodes)) (record { part = c; outs = []; reply = None }) in Trace c (IsAcked from u intents) c d.outs d.part
          one true there = left i found there (without_number from i.nodes) refl
          one false there = Done c

  -- ---- a tick

  -- what is at work at any of these has a Uid
  again_so : (ds : List Doing) (e : Coord) → ((d : Doing) → In d ds → (u : Uid) × (doing_of u c ≡ Some d)) →
      ((u : Uid) → doing_of u e ≡ doing_of u c) → e.tree ≡ c.tree → Trace c Ticks e (again_all ds e).outs (again_all ds e).part
  again_so [] e there same tree = Done e
  again_so (d ∷ ds) e there same tree =
      along (now d.now refl) (again_so ds (again_now e d.now).part (λ q i. there q (inr i)) (after d.now) (its_tree d.now))
    where
      its : (u : Uid) × (doing_of u c ≡ Some d)
      its = there d (inl refl)

      at : (n : Now) → d.now ≡ n → IsAt e its.0 n
      at n is q found = ap (λ (x : Doing). x.now) (some_is (sym found ∙ same its.0 ∙ its.1)) ∙ is

      now : (n : Now) → d.now ≡ n → Trace c Ticks e (again_now e n).outs (again_now e n).part
      now Idle is = Done e
      now (Calling s) is = asks_call Ticks its.0 s c e (CallsAgain its.0 d s its.1 is) tree (at (Calling s) is)
      now (Committing m) is = asks_commit Ticks its.0 m e (CommitsAgain its.0 d m its.1 is) tree (at (Committing m) is)

      asked : (p : Path) (req : ℕ) (asks : List (ℕ × Ask)) (f : Coord) (u : Uid) → doing_of u (asks_all p req asks f).part ≡ doing_of u f
      asked p req [] f u = refl
      asked p req (a ∷ rest) f u = asked p req rest (asks_node p req a f).part u

      after : (n : Now) (u : Uid) → doing_of u (again_now e n).part ≡ doing_of u c
      after Idle u = same u
      after (Calling s) u = same u
      after (Committing m) u = asked (plan_of m).path (plan_of m).req (commit.waiting m) e u ∙ same u

      asked_tree : (p : Path) (req : ℕ) (asks : List (ℕ × Ask)) (f : Coord) → (asks_all p req asks f).part.tree ≡ f.tree
      asked_tree p req [] f = refl
      asked_tree p req (a ∷ rest) f = asked_tree p req rest (asks_node p req a f).part

      its_tree : (n : Now) → (again_now e n).part.tree ≡ c.tree
      its_tree Idle = tree
      its_tree (Calling s) = tree
      its_tree (Committing m) = asked_tree (plan_of m).path (plan_of m).req (commit.waiting m) e ∙ tree

  pub again_trace : Trace c Ticks c (again_all c.doings c).outs (again_all c.doings c).part
  again_trace = again_so c.doings c found (λ u. refl) refl
    where
      itself : (n : ℕ) → (n == n) ≡ true
      itself n = grind arith

      found : (d : Doing) → In d c.doings → (u : Uid) × (doing_of u c ≡ Some d)
      found d i = let p = placed d c.doings i in (
        record { node = c.tree.node; inc = c.tree.inc; num = p.0 },
        (λ j. cond (itself c.tree.node j && itself c.tree.inc j) (at_place p.0 c.doings) None) ∙ p.1,
      )

-- Whatever is sent again, the coordinator only notes it at roots.
module _ (P : Coord → Type 0) (sent : (root : Uid) (w : Went) (e : Coord) → P e → P (on_root root (with_went w) e)) where
  asked_keeps : (p : Path) (req : ℕ) (asked : List (ℕ × Ask)) (e : Coord) → P e → P (asks_all p req asked e).part
  asked_keeps p req [] e h = h
  asked_keeps p req (a ∷ rest) e h = asked_keeps p req rest (asks_node p req a e).part
      (sent (root_of p) (record { path = uids_of p; node = a.0; invoke = is_invoke_ask a.1 }) e h)

  pub again_keeps : (ds : List Doing) (e : Coord) → P e → P (again_all ds e).part
  again_keeps [] e h = h
  again_keeps (d ∷ ds) e h = again_keeps ds (again_now e d.now).part (now d.now)
    where
      now : (n : Now) → P (again_now e n).part
      now Idle = h
      now (Calling s) = sent (root_of s.path)
          (record { path = uids_of s.path; node = next_node s; invoke = is_invoke_ask (next_ask (ends_of (root_of s.path) e.tree) s) }) e h
      now (Committing m) = asked_keeps (plan_of m).path (plan_of m).req (commit.waiting m) e h
