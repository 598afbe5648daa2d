-- A coordinator sends the requests of what waits, and knows of them.
use Rattle.arj_law_parts.proofs.Words
use Words.{◌≡◌, ◌≢◌, ◌⊎◌, ◌≤◌, ◌+◌, ℕ, List, [], ◌∷◌, ◌++◌, Bool, true, false, cond, Option, Some, None, refl, sym, ◌∙◌, ap, subst, inl}
use Words.{inr, ⊎_elim, arith, map, ⊤, is_some, AllByRecursion, flat_map, uid_cases, Uid, Ask, Asked, Body, End, Head, Kind, Label, Message}
use Words.{ObjectState, Path, asks, is_on, request, uids_of, Reply, actor, answers, asks_all, asks_node, call, commits_in, gaveup_lines}
use Words.{goes_on, mark_lines, moved_commit, step_call, step_commit, end_line, At, AtBind, AtLoad, AtActivate, AtNote, AtInvoke, CallStep}
use Words.{Ended, Goal, On, Steps, ask_at, next_ask, next_node, Aborts, Asks, CommitStep, Decides, Machine, Marked, Plan, Stays, ask_of}
use Words.{has_record, participants, plan_of, waiting, Voting, Preparing, Confirming, Calling, Committing, Coord, Doing, Idle, doing_of, Do}
use Words.{Effect, Intent, PutIntent, Say, Send, aborts_with, decide, decided_told, ended, ends_with, record_work, say_for, says, tell}
use Words.{tell_all, tolds_by, tolds_of, tolds_of_branch, up_to, has, Branch, branch_of, ends_of, is_own, root_of, request_reads_back, Post}
use Words.list
use Words.ask
use Words.body
use Words.ending
use Words.kind
use Words.voted
use Words.commit
use Rattle.arj_law_runs.proofs.Terms
use Terms.{Action, IsAsking, IsBusy, IsGoodCoord, IsVoting, Paths, In, Call, IsAsked, IsRefused, call_by, call_in, call_of, ends_in}
use Terms.{Answered, Doomed, HasNoServer, IsCalledBy, IsCovered, IsOfStep, IsOver, IsOwn, IsPlanned, IsVotedIn, IsWaiting, KnowsCalls}
use Terms.{Nowhere, Refused, Spent, WasRefused, WasSpent, bare, head_of}
use Rattle.arj_law_runs.proofs.calls.{CoordCalls.not_both, CoordCalls.step_is, CoordKnown.doing_here, ServerCalls.never}
use Rattle.arj_law_runs.proofs.calls.{ServerCalls.some_is}
use Rattle.arj_law_runs.specs.calls.Coords.{IsCounted, IsThere}

-- the request is that of the commit to this node
pub record IsOfCommit (m : Machine) (to : ℕ) (h : Head) (a : Ask) : Type 0 where
  pub path : h.path ≡ (plan_of m).path
  pub same : a ≡ ask_of m to

-- The request is the last one of an action at work: if the action waits in a call, that of the step, and if it is at its commit, that of
-- the commit; a call is one of a step. A step brings no ends, or all that are listed at its root.
pub record IsSentBy (e : Coord) (to : ℕ) (h : Head) (a : Ask) : Type 0 where
  pub doing : Doing
  pub found : doing_of (actor h.path) e ≡ Some doing
  pub last : h.req ≡ doing.req
  pub step : (s : Steps) → doing.now ≡ Calling s → IsOfStep s to h a
  pub call : (k : Call) → call_in h a ≡ Some k → (s : Steps) × (doing.now ≡ Calling s)
  pub commit : (m : Machine) → doing.now ≡ Committing m → IsOfCommit m to h a
  pub busy : doing.now ≢ Idle
  pub brings : (s : Steps) → doing.now ≡ Calling s → (ends_in a ≡ []) ⊎ (ends_in a ≡ ends_of (root_of s.path) e.tree)

abbrev pub SendsSo : Coord → Effect → Type 0
SendsSo e (Send to m) = (h : Head) (a : Ask) → asks m ≡ Some (h, a) → IsSentBy e to h a
SendsSo e (Say b) = ⊤
SendsSo e (Do w) = ⊤

abbrev pub AllSo : Coord → List Effect → Type 0
AllSo e outs = AllByRecursion (SendsSo e) outs

-- ---- calls and requests

pub call_bare : (h : Head) (a : Ask) → call_in h (bare a) ≡ call_in h a
call_bare h (ask.Bind x i avoid) = refl
call_bare h (ask.Load x) = refl
call_bare h (ask.Activate b st) = refl
call_bare h (ask.Record x b i g) = refl
call_bare h (ask.Invoke x b i ends op) = refl
call_bare h (ask.Vote i ties ends) = refl
call_bare h (ask.Prepare states) = refl
call_bare h (ask.Confirm grants ex inc) = refl

pub call_head : (h : Head) (a : Ask) (k : Call) → call_in h a ≡ Some k → k.head ≡ h
call_head h (ask.Invoke x b i ends op) k is = ap (λ (z : Call). z.head) (sym (some_is is))
call_head h (ask.Bind x i avoid) k is = absurd (cc is)
call_head h (ask.Load x) k is = absurd (cc is)
call_head h (ask.Activate b st) k is = absurd (cc is)
call_head h (ask.Record x b i g) k is = absurd (cc is)
call_head h (ask.Vote i ties ends) k is = absurd (cc is)
call_head h (ask.Prepare states) k is = absurd (cc is)
call_head h (ask.Confirm grants ex inc) k is = absurd (cc is)

-- a call is in a request
pub asked_call : (m : Message) (k : Call) → call_of m ≡ Some k → (a : Ask) × (asks m ≡ Some (k.head, a)) × (call_in k.head a ≡ Some k)
asked_call m k is = by (asks m) refl is
  where
    by : (o : Option (Head × Ask)) → asks m ≡ o → call_by o ≡ Some k → (a : Ask) × (asks m ≡ Some (k.head, a)) × (call_in k.head a ≡ Some k)
    by None none e = let no_way : ◌≡◌ {A = Option Call} None (Some k) = e in absurd (cc no_way)
    by (Some q) at e = let same = call_head q.0 q.1 k e in (q.1, at ∙ (λ i. Some (sym same i, q.1)), ap (λ z. call_in z q.1) same ∙ e)

bare_at : (x : ℕ) (g : Goal) (ends : List (Uid × End)) (at : At) → bare (ask_at x g ends at) ≡ ask_at x g [] at
bare_at x g ends (AtBind avoid) = refl
bare_at x g ends (AtLoad k s rest) = refl
bare_at x g ends (AtActivate k st) = refl
bare_at x g ends (AtNote k i) = refl
bare_at x g ends (AtInvoke k i) = refl

no_call : (m : Machine) (n : ℕ) (h : Head) → call_in h (ask_of m n) ≡ None
no_call (Voting p left) n h = refl
no_call (Preparing p left) n h = refl
no_call (Confirming p) n h = refl

-- ---- one message more

-- a call that this sends is waited for
waits_for : (e : Coord) (to : ℕ) (k : Call) (a : Ask) → call_in k.head a ≡ Some k → IsSentBy e to k.head a → IsWaiting e to k
waits_for e to k a is s =
    let c = s.call k is in
    let f = s.step c.0 c.1 in
    record {
      doing = s.doing;
      step = c.0;
      found = s.found;
      now = c.1;
      node = f.node;
      call = (λ i. call_in (sym f.head i) (sym f.same i)) ∙ call_bare (let z = k in z.head) a ∙ is;
    }

pub refused_more : (p : Post) (sent : List Post) (n : ℕ) (a : Asked) → IsRefused sent n a → IsRefused (p ∷ sent) n a
refused_more p sent n a r = record { to = r.to; message = r.message; posted = inr r.posted; refusal = r.refusal }

module _ (acts_begun : List Action) (paths : Paths) (sent : List Post) (e : Coord) (good : IsGoodCoord acts_begun paths e)
    (knows : KnowsCalls paths sent e) (p : Post)
    (its : (h : Head) (a : Ask) → p.from ≡ e.tree.node → asks p.message ≡ Some (h, a) → is_own (actor h.path) e.tree ≡ true →
    IsSentBy e p.to h a)
    (votes : p.to ≡ e.tree.node → (a : Asked) (states : List ObjectState) → answers p.message ≡ Some (a, Reply.Voted (voted.Yes states)) →
    (d : Doing) (m : Machine) → doing_of a.act e ≡ Some d → d.now ≡ Committing m → (s : ObjectState) → list.In s states →
    IsVotedIn sent e (plan_of m) s.uid.num p.from) where
  new_or_old : (to : ℕ) (k : Call) → IsOwn (p ∷ sent) e to k → IsWaiting e to k ⊎ IsOwn sent e to k
  new_or_old to k o = by o.asked
    where
      by : IsAsked (p ∷ sent) e.tree.node to k → IsWaiting e to k ⊎ IsOwn sent e to k
      by q = one q.posted
        where
          one : In (record { from = e.tree.node; to = to; message = q.message }) (p ∷ sent) → IsWaiting e to k ⊎ IsOwn sent e to k
          one (inr old) =
              inr (record { asked = record { message = q.message; posted = old; call = q.call }; own = o.own; writing = o.writing })
          one (inl same) =
              let c = asked_call q.message k q.call in
              let z = its (let y = k in y.head) c.0 (ap (λ (y : Post). y.from) same) (ap (λ (y : Post). asks y.message) same ∙ c.1) o.own in
              inl (waits_for e to k c.0 c.2 (subst (λ n. IsSentBy e n (let y = k in y.head) c.0) (ap (λ (y : Post). y.to) same) z))

  over_more : (to : ℕ) (k : Call) → IsOver sent e.tree e to k → IsOver (p ∷ sent) e.tree e to k
  over_more to k (Refused r) = Refused (refused_more p sent to _ r)
  over_more to k (Nowhere z) = Nowhere z
  over_more to k (Doomed d) = Doomed d
  over_more to k (Spent s) = Spent s
  over_more to k (Answered s) = Answered s

  called_more : (us : List Uid) (x : ℕ) → IsCalledBy sent e us x → IsCalledBy (p ∷ sent) e us x
  called_more us x a = record {
    rest = a.rest;
    answered = a.answered;
    own = a.own;
    merged = λ w on. let s = a.merged w on in record { post = s.post; posted = inr s.posted; said = s.said };
  }

  planned_more : (used : _) (to : ℕ) (k : Call) → IsPlanned sent e.tree e used to k → IsPlanned (p ∷ sent) e.tree e used to k
  planned_more used to k (WasRefused r) = WasRefused (refused_more p sent to _ r)
  planned_more used to k (HasNoServer z) = HasNoServer z
  planned_more used to k (WasSpent s) = WasSpent s
  planned_more used to k (IsThere q a) = IsThere q a

  -- nobody below a top that commits waits in a call
  not_below : (u : Uid) (d : Doing) (m : Machine) → doing_of u e ≡ Some d → d.now ≡ Committing m → (to : ℕ) (k : Call) → IsWaiting e to k →
      is_on (uids_of (let h = k.head in h.path)) u ≡ true → ((b : Branch) → branch_of (actor (let h = k.head in h.path)) e.tree ≡ Some b →
      uids_of b.path ≡ uids_of (let h = k.head in h.path)) → ⊥
  not_below u d m found now to k w on path =
      let A = actor (let h = k.head in h.path) in
      let a : IsAsking e.tree A (let s = w.step in s.path) = subst (IsBusy e.tree A) w.now (good.busy A w.doing w.found) in
      let v : IsVoting e.tree u (plan_of m) = subst (IsBusy e.tree u) now (good.busy u d found) in
      ⊎_elim (λ same. not_both (sym w.now ∙ ap (λ (z : Doing). z.now) (some_is (sym w.found ∙ ap (λ z. doing_of z e) same ∙ found)) ∙ now))
      (λ other. let o = v.over A (v.below A a.branch a.found (ap (λ us. is_on us u) (path a.branch a.found) ∙ on) other) in
      never o.2 (ap (λ (z : Branch). is_some z.ended) (some_is (sym o.1 ∙ a.found)) ∙ a.opened)) (uid_cases A u)

  pub more_known : ((to : ℕ) (k : Call) → IsWaiting e to k → (b : Branch) → branch_of (actor (let h = k.head in h.path)) e.tree ≡ Some b →
      uids_of b.path ≡ uids_of (let h = k.head in h.path)) → KnowsCalls paths (p ∷ sent) e
  more_known path = record {
    counted = λ q h a i from is own. by q h a i from is own;
    calls = λ to k o.
        ⊎_elim (λ w. inl w) (λ old. ⊎_elim (λ w. inl w) (λ over. inr (over_more to k over)) (knows.calls to k old)) (new_or_old to k o);
    ties = knows.ties;
    plans = λ u d m found now. let v = knows.plans u d m found now in record {
      free = v.free;
      calls = λ to k o on. ⊎_elim (λ w. absurd (not_below u d m found now to k w on (path to k w)))
          (λ old. planned_more _ to k (v.calls to k old on)) (new_or_old to k o);
      votes = λ from z a states i is same s j. voted_so u d m found now v from z a states i is same s j;
      changed = λ s i. called_more _ _ (v.changed s i);
    };
    said = knows.said;
  }
    where
      by : (q : Post) (h : Head) (a : Ask) → In q (p ∷ sent) → q.from ≡ e.tree.node → asks q.message ≡ Some (h, a) →
          is_own (actor h.path) e.tree ≡ true → IsCounted e q.to h a
      by q h a (inr old) from is own = knows.counted q h a old from is own
      by q h a (inl same) from is own =
          let z = its h a (ap (λ (y : Post). y.from) same ∙ from) (ap (λ (y : Post). asks y.message) same ∙ is) own in
          subst (λ n. IsCounted e n h a) (ap (λ (y : Post). y.to) same) (record {
            doing = z.doing;
            found = z.found;
            low = number h.req (let y = z.doing in y.req) z.last;
            last = λ s now at. z.step s now;
          })
        where
          number : (i j : ℕ) → i ≡ j → i ≤ j
          number i j is = omega (arith, is)

      voted_so : (u : Uid) (d : Doing) (m : Machine) → doing_of u e ≡ Some d → d.now ≡ Committing m → IsCovered sent e.tree e u m →
          (from : ℕ) (z : Message) (a : Asked) (states : List ObjectState) →
          In (record { from = from; to = e.tree.node; message = z }) (p ∷ sent) → answers z ≡ Some (a, Reply.Voted (voted.Yes states)) →
          a.act ≡ u → (s : ObjectState) → list.In s states → IsVotedIn (p ∷ sent) e (plan_of m) s.uid.num from
      voted_so u d m found now v from z a states (inr old) is same s j = let r = v.votes from z a states old is same s j in
          (r.0, called_more _ _ r.1)
      voted_so u d m found now v from z a states (inl it) is same s j = subst (λ n. IsVotedIn (p ∷ sent) e (plan_of m) s.uid.num n)
          (ap (λ (y : Post). y.from) it) (more_of (votes (ap (λ (y : Post). y.to) it) a states
          (ap (λ (y : Post). answers y.message) it ∙ is) d m (ap (λ w. doing_of w e) same ∙ found) now s j))
        where
          more_of : IsVotedIn sent e (plan_of m) s.uid.num p.from → IsVotedIn (p ∷ sent) e (plan_of m) s.uid.num p.from
          more_of r = (r.0, called_more _ _ r.1)

-- ---- what isn't a request

abbrev pub IsQuiet : Effect → Type 0
IsQuiet (Send to m) = asks m ≡ None
IsQuiet (Say b) = ⊤
IsQuiet (Do w) = ⊤

abbrev pub AllQuiet : List Effect → Type 0
AllQuiet outs = AllByRecursion IsQuiet outs

quiet_one : (e : Coord) (f : Effect) → IsQuiet f → SendsSo e f
quiet_one e (Send to m) q = λ h a is. absurd (cc (sym q ∙ is))
quiet_one e (Say b) q = tt
quiet_one e (Do w) q = tt

pub quiet_so : (e : Coord) (outs : List Effect) → AllQuiet outs → AllSo e outs
quiet_so e [] q = tt
quiet_so e (f ∷ fs) q = (quiet_one e f q.0, quiet_so e fs q.1)

pub quiet_both : (xs ys : List Effect) → AllQuiet xs → AllQuiet ys → AllQuiet (xs ++ ys)
quiet_both [] ys a b = b
quiet_both (x ∷ xs) ys a b = (a.0, quiet_both xs ys a.1 b)

pub so_both : (e : Coord) (xs ys : List Effect) → AllSo e xs → AllSo e ys → AllSo e (xs ++ ys)
so_both e [] ys a b = b
so_both e (x ∷ xs) ys a b = (a.0, so_both e xs ys a.1 b)

pub quiet_says : (u : Uid) (f : Label → Body) (c : Coord) → AllQuiet (says u f c)
quiet_says u f c = by (doing_of u c)
  where
    by : (o : Option Doing) → AllQuiet (say_for f o)
    by None = tt
    by (Some d) = (tt, tt)

pub quiet_tells : (root : Uid) (ack : Bool) (ends : List (Uid × End)) (nodes : List ℕ) → AllQuiet (tell_all root ack ends nodes)
quiet_tells root ack ends [] = tt
quiet_tells root ack ends (n ∷ ns) = (refl, quiet_tells root ack ends ns)

pub quiet_flat : {A : Type 0} (f : A → List Effect) (items : List A) → ((a : A) → AllQuiet (f a)) → AllQuiet (flat_map f items)
quiet_flat f [] each = tt
quiet_flat f (x ∷ xs) each = quiet_both (f x) (flat_map f xs) (each x) (quiet_flat f xs each)

pub quiet_tolds : (intents : List (Uid × Intent)) (c : Coord) (u : Uid) → AllQuiet (tolds_of intents c u)
quiet_tolds intents c u = by (branch_of u c.tree)
  where
    kinds : (k : Kind) (p : Path) → AllQuiet (tolds_by u k p intents c)
    kinds kind.Nested p = quiet_tells (root_of p) false (up_to u (ends_of (root_of p) c.tree)) _
    kinds kind.Serial p = quiet_tells u false ((u, ending.Abort) ∷ []) _
    kinds kind.Top p = quiet_tells (root_of p) false ((u, ending.Abort) ∷ []) _
    kinds kind.Constituent p = quiet_tells (root_of p) false ((u, ending.Abort) ∷ []) _
    kinds kind.Independent p = quiet_tells (root_of p) false ((u, ending.Abort) ∷ []) _

    by : (o : Option Branch) → AllQuiet (tolds_of_branch u intents c o)
    by None = tt
    by (Some b) = kinds b.kind b.path

-- ---- requests

-- a request is that of an action's work
pub request_so : (e : Coord) (to : ℕ) (h : Head) (a : Ask) (d : Doing) → doing_of (actor h.path) e ≡ Some d → h.req ≡ d.req →
    ((s : Steps) → d.now ≡ Calling s → IsOfStep s to h a) → ((k : Call) → call_in h a ≡ Some k → (s : Steps) × (d.now ≡ Calling s)) →
    ((m : Machine) → d.now ≡ Committing m → IsOfCommit m to h a) → d.now ≢ Idle → ((s : Steps) → d.now ≡ Calling s →
    (ends_in a ≡ []) ⊎ (ends_in a ≡ ends_of (root_of s.path) e.tree)) → SendsSo e (Send to (request h a))
request_so e to h a d found last step call commit busy brings h2 a2 is =
    let same : (h, a) ≡ (h2, a2) = some_is (sym (request_reads_back h a) ∙ is) in
    let heads : h ≡ h2 = ap (λ (z : Head × Ask). z.0) same in
    let its : IsSentBy e to h a =
    record { doing = d; found = found; last = last; step = step; call = call; commit = commit; busy = busy; brings = brings } in
    subst (λ (z : Head × Ask). IsSentBy e to z.0 z.1) same its

-- a step brings no ends, or these
step_ends : (x : ℕ) (g : Goal) (ends : List (Uid × End)) (at : At) →
    (ends_in (ask_at x g ends at) ≡ []) ⊎ (ends_in (ask_at x g ends at) ≡ ends)
step_ends x g ends (AtBind avoid) = inl refl
step_ends x g ends (AtLoad k n rest) = inl refl
step_ends x g ends (AtActivate k st) = inl refl
step_ends x g ends (AtNote k i) = inl refl
step_ends x g ends (AtInvoke k i) = inr refl

-- the request of a step
pub step_so : (e : Coord) (s : Steps) (ends : List (Uid × End)) → ends ≡ ends_of (root_of s.path) e.tree → (d : Doing) → doing_of
    (actor s.path) e ≡ Some d → d.req ≡ s.req → d.now ≡ Calling s → SendsSo e (Send (next_node s) (request (head_of s) (next_ask ends s)))
step_so e s ends listed d found req now =
    request_so e (next_node s) (head_of s) (next_ask ends s) d found (sym req) (λ z at. subst (λ y. IsOfStep y (next_node s) (head_of s)
    (next_ask ends s)) (step_is (sym now ∙ at)) (record { node = refl; head = refl; same = bare_at s.x s.goal ends s.at }))
    (λ k is. (s, now)) (λ m at. absurd (not_both (sym now ∙ at))) (λ idle. cc (sym now ∙ idle))
    (λ z at. ⊎_elim (λ none. inl none) (λ all.
    inr (all ∙ listed ∙ ap (λ (y : Steps). ends_of (root_of y.path) e.tree) (step_is (sym now ∙ at)))) (step_ends s.x s.goal ends s.at))

committing_is : {m q : Machine} → Committing m ≡ Committing q → m ≡ q
committing_is is = cc is

-- the requests of a commit
pub machine_so : (e : Coord) (m : Machine) (ns : List ℕ) (d : Doing) → doing_of (actor (plan_of m).path) e ≡ Some d →
    d.req ≡ (plan_of m).req → d.now ≡ Committing m → (c : Coord) →
    AllSo e (asks_all (plan_of m).path (plan_of m).req (map {A = ℕ} {B = ℕ × Ask} (λ n. (n, ask_of m n)) ns) c).outs
machine_so e m [] d found req now c = tt
machine_so e m (n ∷ ns) d found req now c = (
  request_so e n (record { path = (plan_of m).path; req = (plan_of m).req }) (ask_of m n) d found (sym req) (λ s at. absurd
      (not_both (sym at ∙ now))) (λ k is. absurd (cc (sym (no_call m n (record { path = (plan_of m).path; req = (plan_of m).req })) ∙ is)))
      (λ q at. record {
        path = ap (λ (z : Machine). (plan_of z).path) (committing_is (sym now ∙ at));
        same = ap (λ (z : Machine). ask_of z n) (committing_is (sym now ∙ at));
      }) (λ idle. cc (sym now ∙ idle)) (λ s at. absurd (not_both (sym at ∙ now))),
  machine_so e m ns d found req now (asks_node (plan_of m).path (plan_of m).req (n, ask_of m n) c).part,
)

pub asks_work : (p : Path) (req : ℕ) (as_asked : List (ℕ × Ask)) (c : Coord) (u : Uid) →
    doing_of u (asks_all p req as_asked c).part ≡ doing_of u c
asks_work p req [] c u = refl
asks_work p req (a ∷ rest) c u = asks_work p req rest (asks_node p req a c).part u

-- ---- each handler

pub goes_so : (s : Steps) (t : Coord) (d : Doing) → doing_of (actor s.path) t ≡ Some d → AllSo (goes_on s t).part (goes_on s t).outs
goes_so s t d found = (
  step_so (goes_on s t).part s _ refl (record d { req = s.req; now = Calling s })
      (doing_here (actor s.path) (λ (q : Doing). record q { req = s.req; now = Calling s }) t d found) refl refl,
  tt,
)

pub step_call_so : (s : Steps) (step : CallStep) (t : Coord) (d : Doing) → doing_of (actor s.path) t ≡ Some d →
    AllSo (step_call s step t).part (step_call s step t).outs
step_call_so s (On at) t d found = goes_so (record s { req = s.req + 1; at = at }) t d found
step_call_so s (Ended e) t d found = quiet_so (step_call s (Ended e) t).part (says (actor s.path) (end_line s.x s.goal e) t)
    (quiet_says (actor s.path) (end_line s.x s.goal e) t)

pub quiet_marks : (u : Uid) (marks : List (ℕ × ℕ)) (c : Coord) → AllQuiet (mark_lines u marks c)
quiet_marks u marks c =
    quiet_flat (λ (m : ℕ × ℕ). says u (λ l. body.Excluded l m.0 m.1) c) marks (λ m. quiet_says u (λ l. body.Excluded l m.0 m.1) c)

pub quiet_gaveup : (u : Uid) (nodes : List ℕ) (c : Coord) → AllQuiet (gaveup_lines u nodes c)
quiet_gaveup u nodes c = quiet_flat (λ n. says u (λ l. body.GaveUp l n) c) nodes (λ n. quiet_says u (λ l. body.GaveUp l n) c)

pub quiet_ends : (u : Uid) (e : End) (f : Label → Body) (intents : List (Uid × Intent)) (c : Coord) →
    AllQuiet (ends_with u e f intents c).outs
quiet_ends u e f intents c =
    quiet_both (says u f c) (tolds_of intents (ended u e c) u) (quiet_says u f c) (quiet_tolds intents (ended u e c) u)

pub quiet_decide : (p : Plan) (c : Coord) → AllQuiet (decide p c).outs
quiet_decide p c = quiet_both (record_work (actor p.path) p ++ says (actor p.path) body.Committed c)
    (map (decided_told (root_of p.path) (actor p.path) p) p.sent) (quiet_both (record_work (actor p.path) p)
    (says (actor p.path) body.Committed c) (work (has_record p)) (quiet_says (actor p.path) body.Committed c)) (tolds p.sent)
  where
    work : (b : Bool) → AllQuiet (cond b (Do (PutIntent (actor p.path) (record { root = root_of p.path; nodes = participants p })) ∷ []) [])
    work true = (tt, tt)
    work false = tt

    one : (n : ℕ) (b : Bool) → IsQuiet (cond b (tell (root_of p.path) (has_record p) ((actor p.path, ending.Commit) ∷ []) n)
        (tell (root_of p.path) false ((actor p.path, ending.Abort) ∷ []) n))
    one n true = refl
    one n false = refl

    tolds : (ns : List ℕ) → AllQuiet (map (decided_told (root_of p.path) (actor p.path) p) ns)
    tolds [] = tt
    tolds (n ∷ ns) = (one n (has (participants p) n), tolds ns)

step_commit_so : (u : Uid) (step : CommitStep) (intents : List (Uid × Intent)) (c : Coord) (d : Doing) → doing_of u c ≡ Some d → ((m :
    Machine) → step ≡ Asks m → actor (plan_of m).path ≡ u) → AllSo (step_commit u step intents c).part (step_commit u step intents c).outs
step_commit_so u (Stays m) intents c d found who = tt
step_commit_so u (Asks m) intents c d found who =
    let e = (step_commit u (Asks m) intents c).part in
    let here = asks_work (plan_of m).path (plan_of m).req (waiting m) (commits_in u m c) u
    ∙ doing_here u (λ (q : Doing). record q { req = (plan_of m).req; now = Committing m }) c d found in
    machine_so e m (commit.left_of m) (record d { req = (plan_of m).req; now = Committing m }) (ap (λ z. doing_of z e) (who m refl) ∙ here)
    refl refl (commits_in u m c)
step_commit_so u (Decides q) intents c d found who = quiet_so (decide q c).part (decide q c).outs (quiet_decide q c)
step_commit_so u (Aborts why q) intents c d found who = quiet_so (aborts_with u why intents c).part (aborts_with u why intents c).outs
    (quiet_ends u ending.Abort (λ l. body.Aborted l why) intents c)

pub moved_so : (u : Uid) (m : Marked) (intents : List (Uid × Intent)) (c : Coord) (d : Doing) → doing_of u c ≡ Some d → ((n : Machine) →
    m.step ≡ Asks n → actor (plan_of n).path ≡ u) → AllSo (moved_commit u m intents c).part (moved_commit u m intents c).outs
moved_so u m intents c d found who =
    so_both (moved_commit u m intents c).part (mark_lines u m.marks c) (step_commit u m.step intents c).outs (quiet_so
    (moved_commit u m intents c).part (mark_lines u m.marks c) (quiet_marks u m.marks c)) (step_commit_so u m.step intents c d found who)
