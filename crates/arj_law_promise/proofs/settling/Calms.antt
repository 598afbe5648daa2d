-- What a coordinator sends and says, as far as the outcomes of tops count on it: a Prepare goes to a node for which its commit waits, who
-- is told as aborted was aborted, and a record is written of a commit that naming confirmed.
use Rattle.arj_law_parts.proofs.Words
use Words.{arith, ◌≡◌, ◌≢◌, ◌⊎◌, ◌+◌, ◌==◌, ◌&&◌, ◌∙◌, ℕ, List, [], ◌∷◌, ◌++◌, Bool, true, false, cond, filter, map, length, Option, Some}
use Words.{None, refl, sym, ap, subst, inl, inr, ⊎_elim, ⊤, not, AllByRecursion, In, Ask, Asked, Body, Cause, End, Head, Kind, Label}
use Words.{ObjectState, Uid, asks, request, uid_eq, Reply, actor, last_end, again_all, again_now, asks_all, asks_node, call, call_steps}
use Words.{commit_action, commit_open, commit_top, commits_in, end_line, gaveup_lines, give_up, give_up_doing, gives_up, goes_on, heard}
use Words.{heard_by, heard_call, heard_doing, heard_none, heard_now, include, kept_at, last_req, mark_lines, moved_commit, next_req}
use Words.{renewed, root_lost, root_moved, step_call, step_commit, waits_for_call, waits_for_commit, Answered, At, AtActivate, AtBind}
use Words.{AtInvoke, AtLoad, AtNote, CallEnd, CallStep, Changed, Conflict, Ended, Goal, Included, Lost, Moved, On, Steps, answered, ask_at}
use Words.{given_up, next_ask, next_node, start, Aborts, Asks, CommitStep, Confirming, Decides, Machine, Marked, Plan, Preparing, Stays}
use Words.{Used, Voting, ask_of, begin_confirm, begin_prepare, begin_vote, left_of, nodes_given_up, participants, plan_of, servers_of}
use Words.{targets_of, waiting, Calling, Committing, Coord, Doing, Idle, Now, doing_of, is_free, keeping_of, nodes_sent, on_root, plan_for}
use Words.{root_at, servers_told, with_keeping, Did, Do, Effect, Intent, Say, Send, Served, abort_action, aborts_with, all_aborted, decide}
use Words.{decided_told, ended, ends_with, is_deferred, say_for, says, tell, tell_all, tolds_by, tolds_of, tolds_of_branch, up_to, has}
use Words.{number_set, unbound, with_number, without_number, Input, acts, branch_named, on_branch, Branch, at_place, branch_of, ended_at}
use Words.{ended_branch, ends_of, open_below, root_of, uses_object, request_reads_back}
use Words.list
use Words.ask
use Words.body
use Words.cause
use Words.confirmed
use Words.ending
use Words.kind
use Words.prepared
use Words.voted
use Words.calls
use Words.commit
use Words.input
use Rattle.arj_law_promise.proofs.Terms
use Terms.{flat_map, Action, IsBusy, IsGoodCoord, IsVoting, IsTree, Paths, told_by, IsDecided, AreNumbered, named_found, actor_is}
use Terms.{asks_telling, doing_telling, ended_telling, work_there, has_in, some_is}
use Rattle.arj_law_parts.proofs.parts
use parts.GoodCoords.{IsStepOf, answer_step, giveup_step, on_tree, vote_step}
use parts.GoodTrees.{after_cases, at_u, placed}
use parts.Tellings.{aborted_telling, goes_telling, step_telling}
use Rattle.arj_law_runs.proofs.calls.{CoordKnown.doing_here, CoordOuts.again_work, CoordSends.asks_work}

-- ---- effects

-- The Prepare is one for which a commit under way waits.
pub record PreparesNow (e : Coord) (to : ℕ) (h : Head) (states : List ObjectState) : Type 0 where
  pub doing : Doing
  pub plan : Plan
  pub left : List ℕ
  pub works : doing_of (actor h.path) e ≡ Some doing
  pub now : doing.now ≡ Committing (Preparing plan left)
  pub there : has left to ≡ true

-- Who is told as aborted was aborted, or is a serializing action, or is one of these.
abbrev pub TellsNow : (Uid → Type 0) → Coord → Uid → Type 0
TellsNow U e u = U u ⊎ IsDecided u ending.Abort e.tree ⊎ ((r : Uid) × In (u, ending.Abort) (ends_of r e.tree))
    ⊎ ((b : Branch) × (branch_of u e.tree ≡ Some b) × (b.kind ≡ kind.Serial))

-- a line that commits is about one of these
abbrev pub SaysNow : (Uid → Type 0) → Coord → Body → Type 0
SaysNow U c (body.Committed l) =
    (u : Uid) × (b : Branch) × (q : Doing) × (branch_of u c.tree ≡ Some b) × (doing_of u c ≡ Some q) × (q.label ≡ l) × U u
SaysNow U c (body.Began l k u p) = ⊥
SaysNow U c (body.Recovered n u) = ⊥
SaysNow U c (body.Done n u r e) = ⊥
SaysNow U c b = ⊤

abbrev Calm : (Uid → Type 0) → Coord → Coord → Effect → Type 0
Calm U c e (Send to m) = ((h : Head) (states : List ObjectState) → asks m ≡ Some (h, ask.Prepare states) → PreparesNow e to h states)
    × ((u : Uid) → last_end (told_by m) ≡ Some (u, ending.Abort) → TellsNow U e u)
Calm U c e (Say b) = SaysNow U c b
Calm U c e (Do w) = ⊥

abbrev pub AllCalm : (Uid → Type 0) → Coord → Coord → List Effect → Type 0
AllCalm U c e outs = AllByRecursion (Calm U c e) outs

-- the answer is naming's Yes, to this action
abbrev pub IsYes : Asked → Reply → Uid → Type 0
IsYes a r u = (r ≡ Reply.Confirmed confirmed.Yes) × (a.act ≡ u)

-- Nothing but that; or a top is decided that naming confirmed, of which this is known.
pub data Goes (U Y : Uid → Type 0) (c e : Coord) (outs : List Effect) : Type 0 where
  Still : e.telling ≡ c.telling → AllCalm U c e outs → Goes U Y c e outs
  Decided : (u : Uid) (q : Doing) (p : Plan) → doing_of u c ≡ Some q → q.now ≡ Committing (Confirming p) →
      e ≡ (decide (record p { confirmed = true }) c).part → outs ≡ (decide (record p { confirmed = true }) c).outs → Y u → Goes U Y c e outs

module _ (U : Uid → Type 0) (c e : Coord) where
  pub calm_both : (xs ys : List Effect) → AllCalm U c e xs → AllCalm U c e ys → AllCalm U c e (xs ++ ys)
  calm_both [] ys a b = b
  calm_both (x ∷ xs) ys a b = (a.0, calm_both xs ys a.1 b)

  calm_says : (u : Uid) (f : Label → Body) → ((q : Doing) → doing_of u c ≡ Some q → SaysNow U c (f q.label)) → (d : Coord) →
      doing_of u d ≡ doing_of u c → AllCalm U c e (says u f d)
  calm_says u f each d same = by (doing_of u d) refl
    where
      by : (o : Option Doing) → doing_of u d ≡ o → AllCalm U c e (say_for f o)
      by None is = tt
      by (Some q) is = (each q (sym same ∙ is), tt)

  -- lines that don't commit, of any coordinator
  plain_says : (u : Uid) (f : Label → Body) → ((l : Label) → SaysNow U c (f l)) → (d : Coord) → AllCalm U c e (says u f d)
  plain_says u f each d = by (doing_of u d)
    where
      by : (o : Option Doing) → AllCalm U c e (say_for f o)
      by None = tt
      by (Some q) = (each q.label, tt)

  calm_marks : (u : Uid) (marks : List (ℕ × ℕ)) → AllCalm U c e (mark_lines u marks c)
  calm_marks u [] = tt
  calm_marks u (m ∷ ms) = calm_both (says u (λ l. body.Excluded l m.0 m.1) c) (mark_lines u ms c)
      (plain_says u (λ l. body.Excluded l m.0 m.1) (λ l. tt) c) (calm_marks u ms)

  calm_gaveup : (u : Uid) (nodes : List ℕ) → AllCalm U c e (gaveup_lines u nodes c)
  calm_gaveup u [] = tt
  calm_gaveup u (n ∷ ns) =
      calm_both (says u (λ l. body.GaveUp l n) c) (gaveup_lines u ns c) (plain_says u (λ l. body.GaveUp l n) (λ l. tt) c) (calm_gaveup u ns)

  -- tolds
  pub calm_tells : (root : Uid) (ack : Bool) (ends : List (Uid × End)) (ns : List ℕ) →
      ((u : Uid) → last_end ends ≡ Some (u, ending.Abort) → TellsNow U e u) → AllCalm U c e (tell_all root ack ends ns)
  calm_tells root ack ends [] each = tt
  calm_tells root ack ends (n ∷ ns) each = (((λ h states is. absurd (cc is)), each), calm_tells root ack ends ns each)

  last_in : (es : List (Uid × End)) (x : Uid × End) → last_end es ≡ Some x → In x es
  last_in [] x is = absurd (cc is)
  last_in (y ∷ []) x is = inl (some_is is)
  last_in (y ∷ z ∷ es) x is = inr (last_in (z ∷ es) x is)

  up_in : (u : Uid) (es : List (Uid × End)) (x : Uid × End) → In x (up_to u es) → In x es
  up_in u [] x i = absurd i
  up_in u (y ∷ es) x i = by (uid_eq y.0 u) (up_in u es x) i
    where
      by : (b : Bool) → (In x (up_to u es) → In x es) → In x (cond b (y ∷ []) (y ∷ up_to u es)) → In x (y ∷ es)
      by true rest (inl same) = inl same
      by true rest (inr j) = absurd j
      by false rest (inl same) = inl same
      by false rest (inr j) = inr (rest j)

  -- of a top's end, where it was aborted
  abbrev MayTell : Uid → Type 0
  MayTell u = (b : Branch) → branch_of u e.tree ≡ Some b →
      U u ⊎ (b.kind ≡ kind.Nested) ⊎ (b.kind ≡ kind.Serial) ⊎ (b.ended ≡ Some ending.Abort)

  calm_tolds : (intents : List (Uid × Intent)) (u : Uid) → MayTell u → AllCalm U c e (tolds_of intents e u)
  calm_tolds intents u may = by (branch_of u e.tree) refl
    where
      own : (w : Uid) → ◌≡◌ {A = Option (Uid × End)} (Some (u, ending.Abort)) (Some (w, ending.Abort)) → u ≡ w
      own w is = ap (λ (x : Uid × End). x.0) (some_is is)

      top : (b : Branch) → branch_of u e.tree ≡ Some b → (b.kind ≢ kind.Nested) → (b.kind ≢ kind.Serial) →
          AllCalm U c e (tell_all (root_of b.path) false ((u, ending.Abort) ∷ []) (nodes_sent u (root_at (root_of b.path) e)))
      top b is unnested unserial = calm_tells (root_of b.path) false ((u, ending.Abort) ∷ []) (nodes_sent u (root_at (root_of b.path) e))
          (λ w same. subst (TellsNow U e) (own w same) (one (may b is)))
        where
          one : U u ⊎ (b.kind ≡ kind.Nested) ⊎ (b.kind ≡ kind.Serial) ⊎ (b.ended ≡ Some ending.Abort) → TellsNow U e u
          one (inl so) = inl so
          one (inr (inl n)) = absurd (unnested n)
          one (inr (inr (inl s))) = absurd (unserial s)
          one (inr (inr (inr aborted))) = inr (inl (b, is, aborted))

      kinds : (b : Branch) → branch_of u e.tree ≡ Some b → (k : Kind) → b.kind ≡ k → AllCalm U c e (tolds_by u k b.path intents e)
      kinds b is kind.Nested k = let es = ends_of (root_of b.path) e.tree in
          calm_tells (root_of b.path) false (up_to u es) (servers_told u (root_at (root_of b.path) e) e)
          (λ w last. inr (inr (inl (root_of b.path, up_in u es (w, ending.Abort) (last_in (up_to u es) (w, ending.Abort) last)))))
      kinds b is kind.Serial k = calm_tells u false ((u, ending.Abort) ∷ []) (filter (λ n. not (is_deferred u intents n))
          (nodes_sent u (root_at u e))) (λ w same. subst (TellsNow U e) (own w same) (inr (inr (inr (b, is, k)))))
      kinds b is kind.Top k = top b is (λ n. absurd (cc (sym k ∙ n))) (λ n. absurd (cc (sym k ∙ n)))
      kinds b is kind.Independent k = top b is (λ n. absurd (cc (sym k ∙ n))) (λ n. absurd (cc (sym k ∙ n)))
      kinds b is kind.Constituent k = top b is (λ n. absurd (cc (sym k ∙ n))) (λ n. absurd (cc (sym k ∙ n)))

      by : (o : Option Branch) → branch_of u e.tree ≡ o → AllCalm U c e (tolds_of_branch u intents e o)
      by None is = tt
      by (Some b) is = kinds b is b.kind refl

  calm_all_tolds : (intents : List (Uid × Intent)) (us : List Uid) → ((u : Uid) → In u us → MayTell u) →
      AllCalm U c e (flat_map (tolds_of intents e) us)
  calm_all_tolds intents [] may = tt
  calm_all_tolds intents (u ∷ us) may = calm_both (tolds_of intents e u) (flat_map (tolds_of intents e) us)
      (calm_tolds intents u (may u (inl refl))) (calm_all_tolds intents us (λ w i. may w (inr i)))

  -- ---- requests

  no_ends : (h : Head) (a : Ask) → told_by (request h a) ≡ []
  no_ends h (ask.Bind x include avoid) = refl
  no_ends h (ask.Load x) = refl
  no_ends h (ask.Activate b s) = refl
  no_ends h (ask.Record x b i g) = refl
  no_ends h (ask.Invoke x b i ends op) = refl
  no_ends h (ask.Vote i ties ends) = refl
  no_ends h (ask.Prepare states) = refl
  no_ends h (ask.Confirm grants excluded included) = refl

  tells_none : (h : Head) (a : Ask) (u : Uid) → last_end (told_by (request h a)) ≡ Some (u, ending.Abort) → TellsNow U e u
  tells_none h a u is = let no_way : ◌≡◌ {A = Option (Uid × End)} None (Some (u, ending.Abort)) = sym (ap last_end (no_ends h a)) ∙ is in
      absurd (cc no_way)

  pair_is : {h j : Head} {a b : Ask} → ◌≡◌ {A = Option (Head × Ask)} (Some (h, a)) (Some (j, b)) → (h ≡ j) × (a ≡ b)
  pair_is {h} {j} {a} {b} is = let one : ◌≡◌ {A = Head × Ask} (h, a) (j, b) = cc is in
      (ap (λ (p : Head × Ask). p.0) one, ap (λ (p : Head × Ask). p.1) one)

  no_prepare : (x : ℕ) (g : Goal) (ends : List (Uid × End)) (at : At) (states : List ObjectState) →
      ask_at x g ends at ≡ ask.Prepare states → ⊥
  no_prepare x g ends (AtBind avoid) states is = cc is
  no_prepare x g ends (AtLoad k s rest) states is = cc is
  no_prepare x g ends (AtActivate k st) states is = cc is
  no_prepare x g ends (AtNote k i) states is = cc is
  no_prepare x g ends (AtInvoke k i) states is = cc is

  calm_request : (s : Steps) (to : ℕ) (h : Head) (ends : List (Uid × End)) → Calm U c e (Send to (request h (next_ask ends s)))
  calm_request s to h ends = (
    (λ j states is. absurd (no_prepare s.x s.goal ends s.at states (pair_is (sym (request_reads_back h (next_ask ends s)) ∙ is)).1)),
    tells_none h (next_ask ends s),
  )

  machine_calm : (m : Machine) (ns : List ℕ) (d : Doing) → doing_of (actor (plan_of m).path) e ≡ Some d → d.now ≡ Committing m →
      ((n : ℕ) → list.In n ns → has (left_of m) n ≡ true) → (t : Coord) →
      AllCalm U c e (asks_all (plan_of m).path (plan_of m).req (map {A = ℕ} {B = ℕ × Ask} (λ n. (n, ask_of m n)) ns) t).outs
  machine_calm m [] d found now its t = tt
  machine_calm m (n ∷ ns) d found now its t = (
    (one m refl, tells_none (record { path = (plan_of m).path; req = (plan_of m).req }) (ask_of m n)),
    machine_calm m ns d found now (λ k i. its k (inr i)) (asks_node (plan_of m).path (plan_of m).req (n, ask_of m n) t).part,
  )
    where
      one : (k : Machine) → m ≡ k → (h : Head) (states : List ObjectState) →
          asks (request (record { path = (plan_of m).path; req = (plan_of m).req }) (ask_of m n)) ≡ Some (h, ask.Prepare states) →
          PreparesNow e n h states
      one (Voting p left) same h states is =
          let q = pair_is (sym (request_reads_back (record { path = (plan_of m).path; req = (plan_of m).req }) (ask_of m n)) ∙ is) in
          absurd (let no_way : ask_of (Voting p left) n ≡ ask.Prepare states = ap (λ k. ask_of k n) (sym same) ∙ q.1 in cc no_way)
      one (Confirming p) same h states is =
          let q = pair_is (sym (request_reads_back (record { path = (plan_of m).path; req = (plan_of m).req }) (ask_of m n)) ∙ is) in
          absurd (let no_way : ask_of (Confirming p) n ≡ ask.Prepare states = ap (λ k. ask_of k n) (sym same) ∙ q.1 in cc no_way)
      one (Preparing p left) same h states is =
          let q = pair_is (sym (request_reads_back (record { path = (plan_of m).path; req = (plan_of m).req }) (ask_of m n)) ∙ is) in
          record {
            doing = d;
            plan = p;
            left = left;
            works = ap (λ (z : Head). doing_of (actor z.path) e) (sym q.0) ∙ found;
            now = now ∙ ap Committing same;
            there = ap (λ k. has (left_of k) n) (sym same) ∙ its n (inl refl);
          }

-- ---- steps that don't decide

confirm_undecided : (us : List Used) (p q : Plan) → us ≢ [] → begin_confirm us p ≡ Decides q → ⊥
confirm_undecided [] p q some is = some refl
confirm_undecided (u ∷ us) p q some is = cc is

prepare_undecided : (ns : List ℕ) (p q : Plan) → p.used ≢ [] → begin_prepare ns p ≡ Decides q → ⊥
prepare_undecided [] p q some is = confirm_undecided p.used p q some is
prepare_undecided (n ∷ ns) p q some is = cc is

vote_undecided : (ns : List ℕ) (p q : Plan) → p.used ≢ [] → begin_vote ns p ≡ Decides q → ⊥
vote_undecided [] p q some is = prepare_undecided (targets_of p) p q some is
vote_undecided (n ∷ ns) p q some is = cc is

votes_undecided : (ns : List ℕ) (p q : Plan) → p.used ≢ [] → commit.votes_left ns p ≡ Decides q → ⊥
votes_undecided [] p q some is = prepare_undecided (targets_of p) p q some is
votes_undecided (n ∷ ns) p q some is = cc is

stores_undecided : (ns : List ℕ) (p q : Plan) → p.used ≢ [] → (commit.stores_left ns p).step ≡ Decides q → ⊥
stores_undecided [] p q some is = confirm_undecided p.used p q some is
stores_undecided (n ∷ ns) p q some is = cc is

marks_used : (ns : List ℕ) (p : Plan) → (commit.marks_stores ns p).used ≡ p.used
marks_used [] p = refl
marks_used (n ∷ ns) p = marks_used ns (commit.marks_store n p)

voting_undecided : (from : ℕ) (p : Plan) (left : List ℕ) (r : Reply) (q : Plan) → p.used ≢ [] →
    (commit.answered from (Voting p left) r).step ≡ Decides q → ⊥
voting_undecided from p left (Reply.Voted (voted.Yes states)) q some is =
    votes_undecided (without_number from left) (record p { changed = commit.with_states states p.changed }) q some is
voting_undecided from p left (Reply.Voted (voted.Changed w)) q some is = cc is
voting_undecided from p left (Reply.Bound r) q some is = cc is
voting_undecided from p left (Reply.Loaded r) q some is = cc is
voting_undecided from p left (Reply.Activated r) q some is = cc is
voting_undecided from p left (Reply.Noted r) q some is = cc is
voting_undecided from p left (Reply.Invoked r) q some is = cc is
voting_undecided from p left (Reply.Prepared r) q some is = cc is
voting_undecided from p left (Reply.Confirmed r) q some is = cc is

preparing_undecided : (from : ℕ) (p : Plan) (left : List ℕ) (r : Reply) (q : Plan) → p.used ≢ [] →
    (commit.answered from (Preparing p left) r).step ≡ Decides q → ⊥
preparing_undecided from p left (Reply.Prepared prepared.Yes) q some is =
    stores_undecided (without_number from left) (record p { prepared = with_number from p.prepared }) q some is
preparing_undecided from p left (Reply.Prepared (prepared.InDoubt x h)) q some is =
    stores_undecided (without_number from left) (commit.marks_store from p) q some is
preparing_undecided from p left (Reply.Prepared (prepared.Old x v)) q some is = cc is
preparing_undecided from p left (Reply.Bound r) q some is = cc is
preparing_undecided from p left (Reply.Loaded r) q some is = cc is
preparing_undecided from p left (Reply.Activated r) q some is = cc is
preparing_undecided from p left (Reply.Noted r) q some is = cc is
preparing_undecided from p left (Reply.Invoked r) q some is = cc is
preparing_undecided from p left (Reply.Voted r) q some is = cc is
preparing_undecided from p left (Reply.Confirmed r) q some is = cc is

giveup_undecided : (m : Machine) (q : Plan) → (let p = plan_of m in p.used) ≢ [] → (commit.given_up m).step ≡ Decides q → ⊥
giveup_undecided (Voting p left) q some is = cc is
giveup_undecided (Preparing p left) q some is =
    stores_undecided [] (commit.marks_stores left p) q (λ none. some (sym (marks_used left p) ∙ none)) is
giveup_undecided (Confirming p) q some is = cc is

-- what uses nothing is decided as it is
start_decides : (p q : Plan) → (commit.start p).step ≡ Decides q → q ≡ p
start_decides p q is = by p.used refl
  where
    decides_is : {x y : Plan} → Decides x ≡ Decides y → x ≡ y
    decides_is e = cc e

    by : (us : List Used) → p.used ≡ us → q ≡ p
    by (u ∷ us) used = absurd (vote_undecided (servers_of p) p q (λ none. cc (sym used ∙ none)) is)
    by [] none =
        let voted : begin_vote (servers_of p) p ≡ begin_vote [] p = ap (λ ns. begin_vote ns p) (ap servers_with none) in
        let asked : begin_prepare (targets_of p) p ≡ begin_prepare [] p = ap (λ ns. begin_prepare ns p) (ap (targets_with p) none) in
        sym (decides_is (sym (voted ∙ asked ∙ ap (λ us. begin_confirm us p) none) ∙ is))
      where
        servers_with : List Used → List ℕ
        servers_with us = number_set (map (λ (u : Used). u.server) (filter (λ (u : Used). u.called) us))

        targets_with : Plan → List Used → List ℕ
        targets_with z us = number_set (flat_map (λ (u : Used). commit.stores_by u (commit.changed_of u.x z)) us)

-- ---- the branch of an action that was ended

ended_cases : (w : Uid) (how : End) (c : Coord) (u : Uid) (b : Branch) → branch_of u (ended w how c).tree ≡ Some b →
    ((u ≡ w) × (b.ended ≡ Some how)) ⊎ (branch_of u c.tree ≡ Some b)
ended_cases w how c u b is = by (branch_of w c.tree) refl
    (sym (ap (branch_of u) (on_tree w (λ (d : Doing). record d { now = Idle }) (record c { tree = ended_at w how c.tree }))) ∙ is)
  where
    by : (o : Option Branch) → branch_of w c.tree ≡ o → branch_of u (ended_branch w how c.tree o) ≡ Some b →
        ((u ≡ w) × (b.ended ≡ Some how)) ⊎ (branch_of u c.tree ≡ Some b)
    by None none e = inr e
    by (Some x) found e = ⊎_elim (λ same. inl (same.0, ap (λ (y : Branch). y.ended) (sym same.1))) (λ other. inr other.1)
        (after_cases w how c.tree x found u b e)

abbrev IsAborted : Coord → Uid → Type 0
IsAborted c u = (b : Branch) → branch_of u c.tree ≡ Some b → b.ended ≡ Some ending.Abort

aborted_stays : (us : List Uid) (c : Coord) (w : Uid) → IsAborted c w → IsAborted (all_aborted us c).part w
aborted_stays [] c w aborted b is = aborted b is
aborted_stays (u ∷ us) c w aborted b is = aborted_stays us (ended u ending.Abort c) w
    (λ z at. ⊎_elim (λ here. here.1) (λ there. aborted z there) (ended_cases u ending.Abort c w z at)) b is

here_aborted : (u : Uid) (c : Coord) (b0 : Branch) → branch_of u c.tree ≡ Some b0 → IsAborted (ended u ending.Abort c) u
here_aborted u c b0 found b is = by (branch_of u c.tree) found
    (sym (ap (branch_of u) (on_tree u (λ (d : Doing). record d { now = Idle }) (record c { tree = ended_at u ending.Abort c.tree }))) ∙ is)
  where
    by : (o : Option Branch) → o ≡ Some b0 → branch_of u (ended_branch u ending.Abort c.tree (branch_of u c.tree)) ≡ Some b →
        b.ended ≡ Some ending.Abort
    by o at e = ap (λ (y : Branch). y.ended)
        (sym (some_is (sym (ap (λ z. branch_of u (ended_branch u ending.Abort c.tree z)) found ∙ at_u u ending.Abort c.tree b0 found) ∙ e)))

none_aborted : (u : Uid) (c : Coord) → branch_of u c.tree ≡ None → IsAborted (ended u ending.Abort c) u
none_aborted u c none b is = ⊎_elim (λ here. here.1) (λ there.
    absurd (let no_way : ◌≡◌ {A = Option Branch} None (Some b) = sym none ∙ there in cc no_way)) (ended_cases u ending.Abort c u b is)

ended_aborted : (u : Uid) (c : Coord) → IsAborted (ended u ending.Abort c) u
ended_aborted u c = by (branch_of u c.tree) refl
  where
    by : (o : Option Branch) → branch_of u c.tree ≡ o → IsAborted (ended u ending.Abort c) u
    by None none = none_aborted u c none
    by (Some b) found = here_aborted u c b found

each_aborted : (us : List Uid) (c : Coord) (w : Uid) → In w us → IsAborted (all_aborted us c).part w
each_aborted [] c w i = absurd i
each_aborted (u ∷ us) c w (inl same) =
    aborted_stays us (ended u ending.Abort c) w (subst (IsAborted (ended u ending.Abort c)) same (ended_aborted u c))
each_aborted (u ∷ us) c w (inr i) = each_aborted us (ended u ending.Abort c) w i

module _ (U : Uid → Type 0) where
  goes_calm : (c : Coord) (s : Steps) (t : Coord) → AllCalm U c (goes_on s t).part (goes_on s t).outs
  goes_calm c s t = (calm_request U c (goes_on s t).part s (next_node s) (record { path = s.path; req = s.req }) _, tt)

  line_calm : (c : Coord) (x : ℕ) (g : Goal) (end : CallEnd) (l : Label) → SaysNow U c (end_line x g end l)
  line_calm c x (calls.Run o) (Answered a) l = tt
  line_calm c x (calls.Include s) (Answered a) l = tt
  line_calm c x g (Included st) l = tt
  line_calm c x g (Conflict h m n) l = tt
  line_calm c x g (Changed n w) l = tt
  line_calm c x g (Lost n b) l = tt

  step_call_calm : (c : Coord) (s : Steps) (n : CallStep) (t : Coord) → AllCalm U c (step_call s n t).part (step_call s n t).outs
  step_call_calm c s (On at) t = goes_calm c (record s { req = s.req + 1; at = at }) t
  step_call_calm c s (Ended g) t =
      plain_says U c (step_call s (Ended g) t).part (actor s.path) (end_line s.x s.goal g) (line_calm c s.x s.goal g) t

  abort_calm : (u : Uid) (why : Cause) (intents : List (Uid × Intent)) (c : Coord) →
      AllCalm U c (ended u ending.Abort c) (aborts_with u why intents c).outs
  abort_calm u why intents c = calm_both U c (ended u ending.Abort c) (says u (λ l. body.Aborted l why) c)
      (tolds_of intents (ended u ending.Abort c) u) (plain_says U c (ended u ending.Abort c) u (λ l. body.Aborted l why) (λ l. tt) c)
      (calm_tolds U c (ended u ending.Abort c) intents u (λ b is. inr (inr (inr (ended_aborted u c b is)))))

  abort_goes : (u : Uid) (why : Cause) (intents : List (Uid × Intent)) (c : Coord) →
      Goes U (λ w. ⊥) c (aborts_with u why intents c).part (aborts_with u why intents c).outs
  abort_goes u why intents c = Still (ended_telling u c ending.Abort) (abort_calm u why intents c)

  -- a step that decides nothing
  step_still : (u : Uid) (s : CommitStep) (intents : List (Uid × Intent)) (c : Coord) (d : Doing) → doing_of u c ≡ Some d →
      ((m : Machine) → s ≡ Asks m → actor (plan_of m).path ≡ u) → ((q : Plan) → s ≡ Decides q → ⊥)
      → ((step_commit u s intents c).part.telling ≡ c.telling)
      × AllCalm U c (step_commit u s intents c).part (step_commit u s intents c).outs
  step_still u (Stays m) intents c d found who none =
      (doing_telling u (λ (q : Doing). record q { req = (plan_of m).req; now = Committing m }) c, tt)
  step_still u (Asks m) intents c d found who none =
      let e = (step_commit u (Asks m) intents c).part in
      let here = asks_work (plan_of m).path (plan_of m).req (waiting m) (commits_in u m c) u
      ∙ doing_here u (λ (q : Doing). record q { req = (plan_of m).req; now = Committing m }) c d found in (
        asks_telling (plan_of m).path (plan_of m).req (waiting m) (commits_in u m c)
            ∙ doing_telling u (λ (q : Doing). record q { req = (plan_of m).req; now = Committing m }) c,
        machine_calm U c e m (left_of m) (record d { req = (plan_of m).req; now = Committing m })
            (ap (λ z. doing_of z e) (who m refl) ∙ here) refl (has_in (left_of m)) (commits_in u m c),
      )
  step_still u (Decides q) intents c d found who none = absurd (none q refl)
  step_still u (Aborts why q) intents c d found who none = (ended_telling u c ending.Abort, abort_calm u why intents c)

  moved_still : (u : Uid) (m : Marked) (intents : List (Uid × Intent)) (c : Coord) (d : Doing) → doing_of u c ≡ Some d →
      ((n : Machine) → m.step ≡ Asks n → actor (plan_of n).path ≡ u) → ((q : Plan) → m.step ≡ Decides q → ⊥)
      → ((moved_commit u m intents c).part.telling ≡ c.telling)
      × AllCalm U c (moved_commit u m intents c).part (moved_commit u m intents c).outs
  moved_still u m intents c d found who none = let s = step_still u m.step intents c d found who none in (
    s.0,
    calm_both U c (moved_commit u m intents c).part (mark_lines u m.marks c) (step_commit u m.step intents c).outs
        (calm_marks U c (moved_commit u m intents c).part u m.marks) s.1,
  )

  all_aborted_calm : (us : List Uid) (c t e : Coord) → AllCalm U c e (all_aborted us t).outs
  all_aborted_calm [] c t e = tt
  all_aborted_calm (u ∷ us) c t e = calm_both U c e (says u (λ l. body.Aborted l cause.Asked) t) (all_aborted us (ended u ending.Abort
      t)).outs (plain_says U c e u (λ l. body.Aborted l cause.Asked) (λ l. tt) t) (all_aborted_calm us c (ended u ending.Abort t) e)

  module _ (actions : List Action) (paths : Paths) (tree : IsTree paths) (c : Coord) (good : IsGoodCoord actions paths c)
      (works : length c.doings ≡ length c.tree.branches) (uses : (u : Uid) (d : Doing) (m : Machine) → doing_of u c ≡ Some d →
      d.now ≡ Committing m → (let p = plan_of m in p.used) ≢ []) where
    asks_who : (u : Uid) (p : Plan) (step : CommitStep) → actor p.path ≡ u → IsStepOf actions paths tree p step → (m : Machine) →
        step ≡ Asks m → actor (plan_of m).path ≡ u
    asks_who u p (Asks z) who same m is = ap (λ (y : Machine). actor (plan_of y).path) (sym (asks_is is)) ∙ ap actor same.0 ∙ who
      where
        asks_is : {a b : Machine} → Asks a ≡ Asks b → a ≡ b
        asks_is e = cc e
    asks_who u p (Stays z) who same m is = absurd (cc is)
    asks_who u p (Decides q) who same m is = absurd (cc is)
    asks_who u p (Aborts why z) who same m is = absurd (cc is)

    voting : (u : Uid) (d : Doing) (m : Machine) → doing_of u c ≡ Some d → d.now ≡ Committing m → actor (plan_of m).path ≡ u
    voting u d m found now = let v : IsVoting c.tree u (plan_of m) = subst (IsBusy c.tree u) now (good.busy u d found) in
        actor_is actions paths tree u (plan_of m).path c good v.asking

    pub heard_goes : (from : ℕ) (a : Asked) (r : Reply) (intents : List (Uid × Intent)) →
        Goes U (IsYes a r) c (heard from a r intents c).part (heard from a r intents c).outs
    heard_goes from a r intents = by (doing_of a.act c) refl
      where
        machine : (d : Doing) → doing_of a.act c ≡ Some d → (n : Machine) → d.now ≡ Committing n → Goes U (IsYes a r) c
            (moved_commit a.act (commit.answered from n r) intents c).part (moved_commit a.act (commit.answered from n r) intents c).outs
        machine d found n at = by_kind n at r refl
          where
            still : (k : Machine) (z : Reply) → d.now ≡ Committing k → ((q : Plan) → (commit.answered from k z).step ≡ Decides q → ⊥) →
                Goes U (IsYes a r) c (moved_commit a.act (commit.answered from k z) intents c).part
                (moved_commit a.act (commit.answered from k z) intents c).outs
            still k z now none = let s = moved_still a.act (commit.answered from k z) intents c d found (asks_who a.act (plan_of k)
                (commit.answered from k z).step (voting a.act d k found now) (answer_step actions paths tree from k z)) none in
                Still s.0 s.1

            by_kind : (k : Machine) → d.now ≡ Committing k → (z : Reply) → r ≡ z → Goes U (IsYes a r) c (moved_commit a.act
                (commit.answered from k z) intents c).part (moved_commit a.act (commit.answered from k z) intents c).outs
            by_kind (Voting p left) now z same =
                still (Voting p left) z now (λ q is. voting_undecided from p left z q (uses a.act d (Voting p left) found now) is)
            by_kind (Preparing p left) now z same =
                still (Preparing p left) z now (λ q is. preparing_undecided from p left z q (uses a.act d (Preparing p left) found now) is)
            by_kind (Confirming p) now (Reply.Confirmed confirmed.Yes) same = Decided a.act d p found now refl refl (same, refl)
            by_kind (Confirming p) now (Reply.Confirmed (confirmed.Conflict h m)) same =
                still (Confirming p) (Reply.Confirmed (confirmed.Conflict h m)) now (λ q is. cc is)
            by_kind (Confirming p) now (Reply.Confirmed (confirmed.Changed w)) same =
                still (Confirming p) (Reply.Confirmed (confirmed.Changed w)) now (λ q is. cc is)
            by_kind (Confirming p) now (Reply.Confirmed (confirmed.NoStores x)) same =
                still (Confirming p) (Reply.Confirmed (confirmed.NoStores x)) now (λ q is. cc is)
            by_kind (Confirming p) now (Reply.Confirmed (confirmed.Listed x s)) same =
                still (Confirming p) (Reply.Confirmed (confirmed.Listed x s)) now (λ q is. cc is)
            by_kind (Confirming p) now (Reply.Bound z) same = still (Confirming p) (Reply.Bound z) now (λ q is. cc is)
            by_kind (Confirming p) now (Reply.Loaded z) same = still (Confirming p) (Reply.Loaded z) now (λ q is. cc is)
            by_kind (Confirming p) now (Reply.Activated z) same = still (Confirming p) (Reply.Activated z) now (λ q is. cc is)
            by_kind (Confirming p) now (Reply.Noted z) same = still (Confirming p) (Reply.Noted z) now (λ q is. cc is)
            by_kind (Confirming p) now (Reply.Invoked z) same = still (Confirming p) (Reply.Invoked z) now (λ q is. cc is)
            by_kind (Confirming p) now (Reply.Voted z) same = still (Confirming p) (Reply.Voted z) now (λ q is. cc is)
            by_kind (Confirming p) now (Reply.Prepared z) same = still (Confirming p) (Reply.Prepared z) now (λ q is. cc is)

        by_now : (d : Doing) → doing_of a.act c ≡ Some d → (n : Now) → d.now ≡ n →
            Goes U (IsYes a r) c (heard_now from a r intents c n).part (heard_now from a r intents c n).outs
        by_now d found Idle at = Still refl tt
        by_now d found (Calling s) at = one (waits_for_call from a r s)
          where
            m : Moved
            m = answered (is_free (root_of s.path) (actor s.path) s.x c) (kept_at s c) s.goal s.at r

            one : (w : Bool) → let z = cond {A = Served Coord (Unit {0})} w (heard_by (heard_call s r c)) (heard_none c) in
                Goes U (IsYes a r) c z.part z.outs
            one true = Still (step_telling s m.step (on_root (root_of s.path) (root_moved s r m) c))
                (step_call_calm c s m.step (on_root (root_of s.path) (root_moved s r m) c))
            one false = Still refl tt
        by_now d found (Committing n) at = one (waits_for_commit from a r n)
          where
            one : (w : Bool) → let z = cond {A = Served Coord (Unit {0})} w
                (heard_by (moved_commit a.act (commit.answered from n r) intents c)) (heard_none c) in Goes U (IsYes a r) c z.part z.outs
            one true = machine d found n at
            one false = Still refl tt

        by : (o : Option Doing) → doing_of a.act c ≡ o →
            Goes U (IsYes a r) c (heard_doing from a r intents c o).part (heard_doing from a r intents c o).outs
        by None none = Still refl tt
        by (Some d) found = by_now d found d.now refl

    give_up_goes : (u : Uid) (intents : List (Uid × Intent)) → Goes U (λ w. ⊥) c (give_up u intents c).part (give_up u intents c).outs
    give_up_goes u intents = by (doing_of u c) refl
      where
        by_now : (d : Doing) → doing_of u c ≡ Some d → (n : Now) → d.now ≡ n →
            Goes U (λ w. ⊥) c (gives_up u intents c n).part (gives_up u intents c n).outs
        by_now d found Idle at = Still refl tt
        by_now d found (Calling s) at =
            let t = step_call s (given_up s.at) (on_root (root_of s.path) (root_lost s (given_up s.at)) c) in
            Still (step_telling s (given_up s.at) (on_root (root_of s.path) (root_lost s (given_up s.at)) c))
            (calm_both U c t.part (gaveup_lines u (next_node s ∷ []) c) t.outs (calm_gaveup U c t.part u (next_node s ∷ []))
            (step_call_calm c s (given_up s.at) (on_root (root_of s.path) (root_lost s (given_up s.at)) c)))
        by_now d found (Committing n) at =
            let t = moved_commit u (commit.given_up n) intents c in
            let s = moved_still u (commit.given_up n) intents c d found (asks_who u (plan_of n) (commit.given_up n).step
            (voting u d n found at) (giveup_step actions paths tree n)) (λ q is. giveup_undecided n q (uses u d n found at) is) in
            Still s.0 (calm_both U c t.part (gaveup_lines u (nodes_given_up n) c) t.outs (calm_gaveup U c t.part u (nodes_given_up n)) s.1)

        by : (o : Option Doing) → doing_of u c ≡ o → Goes U (λ w. ⊥) c (give_up_doing u intents c o).part (give_up_doing u intents c o).outs
        by None none = Still refl tt
        by (Some d) found = by_now d found d.now refl

    -- as a commit begins
    commit_goes : (b : Branch) (intents : List (Uid × Intent)) (d : Doing) → branch_of (actor b.path) c.tree ≡ Some b → doing_of
        (actor b.path) c ≡ Some d → U (actor b.path) → Goes U (λ w. ⊥) c (commit_action b intents c).part (commit_action b intents c).outs
    commit_goes b intents d there found unasked = by b.doomed
      where
        plan : Plan
        plan = plan_for b.path (last_req (doing_of (actor b.path) c)) (root_at (root_of b.path) c) c

        ends : (how : End) (f : Label → Body) → ((q : Doing) → doing_of (actor b.path) c ≡ Some q → SaysNow U c (f q.label)) →
            Goes U (λ w. ⊥) c (ends_with (actor b.path) how f intents c).part (ends_with (actor b.path) how f intents c).outs
        ends how f each = Still (ended_telling (actor b.path) c how) (let e = ended (actor b.path) how c in
            calm_both U c e (says (actor b.path) f c) (tolds_of intents e (actor b.path)) (calm_says U c e (actor b.path) f each c refl)
            (calm_tolds U c e intents (actor b.path) (λ z is. inl unasked)))

        decided : (q : Plan) → q ≡ plan → ((decide q c).part.telling ≡ c.telling) × AllCalm U c (decide q c).part (decide q c).outs
        decided q same =
            subst (λ (z : Plan). ((decide z c).part.telling ≡ c.telling) × AllCalm U c (decide z c).part (decide z c).outs) (sym same) (
              telling,
              calm_both U c (decide plan c).part (says (actor b.path) body.Committed c)
                  (map (decided_told (root_of b.path) (actor b.path) plan) plan.sent) (calm_says U c (decide plan c).part (actor b.path)
                  body.Committed (λ z is. (actor b.path, b, z, there, is, refl, unasked)) c refl) (tolds plan.sent),
            )
          where
            telling : (decide plan c).part.telling ≡ c.telling
            telling = doing_telling (actor b.path) (λ (z : Doing). record z { took = participants plan })
                (ended (actor b.path) ending.Commit c) ∙ ended_telling (actor b.path) c ending.Commit

            tolds : (ns : List ℕ) → AllCalm U c (decide plan c).part (map (decided_told (root_of b.path) (actor b.path) plan) ns)
            tolds [] = tt
            tolds (n ∷ ns) = (one (has (participants plan) n), tolds ns)
              where
                one : (x : Bool) → Calm U c (decide plan c).part (cond x (tell (root_of b.path) (commit.has_record plan)
                    ((actor b.path, ending.Commit) ∷ []) n) (tell (root_of b.path) false ((actor b.path, ending.Abort) ∷ []) n))
                one true = ((λ h states is. absurd (cc is)), (λ w last. absurd (not_both (ap (λ (z : Uid × End). z.1) (some_is last)))))
                  where
                    not_both : ending.Commit ≡ ending.Abort → ⊥
                    not_both is = cc is
                one false =
                    ((λ h states is. absurd (cc is)), (λ w last. inl (subst U (ap (λ (z : Uid × End). z.0) (some_is last)) unasked)))

        started : (s : CommitStep) → ((q : Plan) → s ≡ Decides q → q ≡ plan) → IsStepOf actions paths tree plan s →
            ((step_commit (actor b.path) s intents c).part.telling ≡ c.telling)
            × AllCalm U c (step_commit (actor b.path) s intents c).part (step_commit (actor b.path) s intents c).outs
        started (Decides q) its of = decided q (its q refl)
        started (Stays m) its of =
            step_still (actor b.path) (Stays m) intents c d found (asks_who (actor b.path) plan (Stays m) refl of) (λ q is. cc is)
        started (Asks m) its of =
            step_still (actor b.path) (Asks m) intents c d found (asks_who (actor b.path) plan (Asks m) refl of) (λ q is. cc is)
        started (Aborts why p) its of =
            step_still (actor b.path) (Aborts why p) intents c d found (asks_who (actor b.path) plan (Aborts why p) refl of) (λ q is. cc is)

        top : Goes U (λ w. ⊥) c (commit_top b.path intents c).part (commit_top b.path intents c).outs
        top =
            let t = moved_commit (actor b.path) (commit.start plan) intents c in
            let s = started (commit.start plan).step (λ q is. start_decides plan q is)
            (vote_step actions paths tree (servers_of plan) plan plan (refl, refl)) in
            Still s.0 (calm_both U c t.part (says (actor b.path) body.Committing c) t.outs
            (plain_says U c t.part (actor b.path) body.Committing (λ l. tt) c) s.1)

        kinds : (k : Kind) → Goes U (λ w. ⊥) c (commit_open b intents c k).part (commit_open b intents c k).outs
        kinds kind.Nested = ends ending.Commit body.Committed (λ q is. (actor b.path, b, q, there, is, refl, unasked))
        kinds kind.Serial = ends ending.Commit body.Ended (λ q is. tt)
        kinds kind.Top = top
        kinds kind.Independent = top
        kinds kind.Constituent = top

        by : (w : Bool) → let z = cond {A = Did Coord} w (aborts_with (actor b.path) cause.Doomed intents c)
            (commit_open b intents c b.kind) in Goes U (λ w. ⊥) c z.part z.outs
        by true = abort_goes (actor b.path) cause.Doomed intents c
        by false = kinds b.kind

    pub acts_goes : (i : Input) (intents : List (Uid × Intent)) → ((l : Label) (k : Kind) (parent : Option Label) →
        i ≢ input.Begin l k parent) → ((l : Label) (b : Branch) → i ≡ input.Commit l → branch_of (actor b.path) c.tree ≡ Some b →
        branch_named l c ≡ Some b → U (actor b.path)) → Goes U (λ w. ⊥) c (acts i intents c).part (acts i intents c).outs
    acts_goes (input.Begin l k parent) intents other unasked = absurd (other l k parent refl)
    acts_goes (input.Call l x o) intents other unasked = by (branch_named l c)
      where
        by : (f : Option Branch) → let z = on_branch (λ b. call b.path x o c) c f in Goes U (λ w. ⊥) c z.part z.outs
        by None = Still refl tt
        by (Some b) =
            let old = keeping_of x (root_at (root_of b.path) c) in
            let k = renewed (is_free (root_of b.path) (actor b.path) x c) old old.kept in
            let t : Coord = on_root (root_of b.path) (with_keeping x k) (record c { tree = uses_object b.path x c.tree }) in
            Still (goes_telling (call_steps b.path x o (next_req (actor b.path) c) (root_at (root_of b.path) c) c k) t)
            (goes_calm c (call_steps b.path x o (next_req (actor b.path) c) (root_at (root_of b.path) c) c k) t)
    acts_goes (input.Include l x s) intents other unasked = by (branch_named l c)
      where
        by : (f : Option Branch) → let z = on_branch (λ b. include b.path x s c) c f in Goes U (λ w. ⊥) c z.part z.outs
        by None = Still refl tt
        by (Some b) = Still (goes_telling (start b.path x (calls.Include s) None unbound (next_req (actor b.path) c))
            (record c { tree = uses_object b.path x c.tree })) (goes_calm c
            (start b.path x (calls.Include s) None unbound (next_req (actor b.path) c)) (record c { tree = uses_object b.path x c.tree }))
    acts_goes (input.Commit l) intents other unasked = by (branch_named l c) refl
      where
        by : (f : Option Branch) → branch_named l c ≡ f → let z = on_branch (λ b. commit_action b intents c) c f in
            Goes U (λ w. ⊥) c z.part z.outs
        by None is = Still refl tt
        by (Some b) is = let there = named_found actions paths tree intents c good l b is in
            let d = work_there c works (actor b.path) b there in commit_goes b intents d.0 there d.1 (unasked l b refl there is)
    acts_goes (input.Abort l) intents other unasked = by (branch_named l c)
      where
        by : (f : Option Branch) → let z = on_branch (λ b. abort_action (actor b.path) intents c) c f in Goes U (λ w. ⊥) c z.part z.outs
        by None = Still refl tt
        by (Some b) =
            let us = open_below (actor b.path) c.tree ++ actor b.path ∷ [] in
            let t = all_aborted us c in
            Still (aborted_telling us c) (calm_both U c t.part t.outs (flat_map (tolds_of intents t.part) us) (all_aborted_calm us c c
            t.part) (calm_all_tolds U c t.part intents us (λ w i z is. inr (inr (inr (each_aborted us c w i z is))))))
    acts_goes (input.GiveUp l) intents other unasked = by (branch_named l c)
      where
        by : (f : Option Branch) → let z = on_branch (λ b. give_up (actor b.path) intents c) c f in Goes U (λ w. ⊥) c z.part z.outs
        by None = Still refl tt
        by (Some b) = give_up_goes (actor b.path) intents
    acts_goes (input.Frame k from m) intents other unasked = Still refl tt
    acts_goes input.Tick intents other unasked = Still refl tt
    acts_goes input.Restart intents other unasked = Still refl tt
    acts_goes input.Crash intents other unasked = Still refl tt
    acts_goes (input.Show x) intents other unasked = Still refl tt

    again_from : (ds : List Doing) (e last : Coord) → ((u : Uid) → doing_of u last ≡ doing_of u c) →
        ((d : Doing) → list.In d ds → (u : Uid) × (doing_of u c ≡ Some d)) → AllCalm U c last (again_all ds e).outs
    again_from [] e last same there = tt
    again_from (d ∷ ds) e last same there = calm_both U c last (again_now e d.now).outs (again_all ds (again_now e d.now).part).outs
        (now d.now refl) (again_from ds (again_now e d.now).part last same (λ q i. there q (inr i)))
      where
        found : doing_of (there d (inl refl)).0 c ≡ Some d
        found = (there d (inl refl)).1

        now : (n : Now) → d.now ≡ n → AllCalm U c last (again_now e n).outs
        now Idle is = tt
        now (Calling s) is =
            (calm_request U c last s (next_node s) (record { path = s.path; req = s.req }) (ends_of (root_of s.path) e.tree), tt)
        now (Committing m) is = machine_calm U c last m (left_of m) d (same (actor (plan_of m).path)
            ∙ ap (λ z. doing_of z c) (voting (there d (inl refl)).0 d m found is) ∙ found) is (has_in (left_of m)) e

    pub again_calm : AreNumbered c → AllCalm U c (again_all c.doings c).part (again_all c.doings c).outs
    again_calm numbered = again_from c.doings c (again_all c.doings c).part (again_work actions paths tree c good numbered works c.doings c)
        (λ d i. by d (placed d c.doings i))
      where
        same : (n : ℕ) → (n == n) ≡ true
        same n = grind arith

        by : (d : Doing) → (k : ℕ) × (at_place k c.doings ≡ Some d) → (u : Uid) × (doing_of u c ≡ Some d)
        by d p = (
          record { node = c.tree.node; inc = c.tree.inc; num = p.0 },
          (λ i. cond (same c.tree.node i && same c.tree.inc i) (at_place p.0 c.doings) None) ∙ p.1,
        )
