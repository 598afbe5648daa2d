-- What a coordinator's commits use and its roots have noted of includes stays, whatever it does.
use Rattle.arj_law_parts.proofs.Words
use Words.{◌≡◌, ◌≢◌, ◌++◌, ◌∙◌, ◌+◌, ℕ, Bool, true, false, cond, List, [], ◌∷◌, Option, Some, None, Contains, ap, inl, inr, refl, subst}
use Words.{sym, ⊎_elim, ⊤, list_any, In, in_from, in_to, Ask, Asked, End, Kind, Label, Path, PreparedReply, Uid, VotedReply, name, uids_of}
use Words.{Reply, actor, again_all, again_now, asks_all, asks_node, call, call_steps, commit_action, commit_open, commit_top, commits_in}
use Words.{doomed_by, give_up, give_up_doing, gives_up, goes_on, heard, heard_by, heard_doing, heard_none, heard_now, heard_call, include}
use Words.{is_invoke_ask, store_of, kept_at, last_req, moved_commit, next_req, renewed, root_heard, root_lost, root_moved, step_call}
use Words.{step_commit, waits_for_call, waits_for_commit, Answered, CallEnd, CallStep, Changed, Conflict, Ended, Include, Included, Lost}
use Words.{On, Steps, answered, given_up, next_ask, next_node, Aborts, Asks, CommitStep, Confirming, Decides, Machine, Marked, Plan}
use Words.{Preparing, Stays, Used, Voting, begin_confirm, begin_prepare, begin_vote, has_record, marks_stores, participants, plan_of}
use Words.{servers_of, stores_left, targets_of, votes_left, waiting, Calling, Committing, Coord, Doing, Idle, Joined, Keeping, Now, Root}
use Words.{Said, Went, doing_of, is_free, joined_with, keeping_of, later_state, on_doing, on_root, plan_for, root_at, same_join, same_said}
use Words.{with_keeping, with_said, with_went, Did, Intent, Served, abort_action, aborts_with, acked, acked_by, acked_left, all_aborted}
use Words.{decide, ended, root_after, at_uid, has, put_uid, unbound, with_number, without_number, Input, acts, branch_named, on_branch}
use Words.{Branch, Tree, at_place, doomed_at, ended_at, ends_of, is_own, open_below, root_of, uses_object}
use Words.cause
use Words.ending
use Words.kind
use Words.prepared
use Words.voted
use Words.confirmed
use Words.calls
use Words.commit
use Words.input
use Rattle.arj_law_serial.proofs.Terms
use Terms.{moved_keeps, on_cases, on_roots, root_cases, doomed_same, on_tree, uses_same, end_tree_on, is_top, FitsIncludes, HasJoined}
use Terms.{PlansInclude, Book}
use Rattle.arj_law_runs.proofs.coordinators.CoordUses.{went_keeps}
use Rattle.arj_law_runs.specs.journal.Knows.{root_in}
use Rattle.arj_law_serial.proofs.joint.JoinLines.{fits_step}

-- ---- steps of a commit

-- a step goes on with these uses, or the commit is over
abbrev pub StepUses : List Used → CommitStep → Type 0
StepUses us (Stays m) = (let p = plan_of m in p.used) ≡ us
StepUses us (Asks m) = (let p = plan_of m in p.used) ≡ us
StepUses us _ = ⊤

confirm_uses : (us : List Used) (p : Plan) → StepUses p.used (begin_confirm us p)
confirm_uses [] p = tt
confirm_uses (u ∷ us) p = refl

prepare_uses : (ns : List ℕ) (p : Plan) → StepUses p.used (begin_prepare ns p)
prepare_uses [] p = confirm_uses p.used p
prepare_uses (n ∷ ns) p = refl

vote_uses : (ns : List ℕ) (p : Plan) → StepUses p.used (begin_vote ns p)
vote_uses [] p = prepare_uses (targets_of p) p
vote_uses (n ∷ ns) p = refl

votes_uses : (ns : List ℕ) (p : Plan) → StepUses p.used (votes_left ns p)
votes_uses [] p = prepare_uses (targets_of p) p
votes_uses (n ∷ ns) p = refl

stores_uses : (ns : List ℕ) (p : Plan) → StepUses p.used (let m = stores_left ns p in m.step)
stores_uses [] p = confirm_uses p.used p
stores_uses (n ∷ ns) p = refl

marked_uses : (ns : List ℕ) (p : Plan) → (let q = marks_stores ns p in q.used) ≡ p.used
marked_uses [] p = refl
marked_uses (n ∷ ns) p = marked_uses ns (commit.marks_store n p)

abbrev used_of : Machine → List Used
used_of m = let p = plan_of m in p.used

voted_uses : (from : ℕ) (left : List ℕ) (p : Plan) (r : VotedReply) → StepUses p.used (commit.voted_by from left p r).step
voted_uses from left p (voted.Yes states) =
    votes_uses (without_number from left) (record p { changed = commit.with_states states p.changed })
voted_uses from left p (voted.Changed w) = tt

prepared_uses : (from : ℕ) (left : List ℕ) (p : Plan) (r : PreparedReply) → StepUses p.used (commit.prepared_by from left p r).step
prepared_uses from left p prepared.Yes = stores_uses (without_number from left) (record p { prepared = with_number from p.prepared })
prepared_uses from left p (prepared.InDoubt x holder) = stores_uses (without_number from left) (commit.marks_store from p)
prepared_uses from left p (prepared.Old x v) = tt

answered_uses : (from : ℕ) (m : Machine) (r : Reply) → StepUses (used_of m) (commit.answered from m r).step
answered_uses from (Voting p left) (Reply.Voted r) = voted_uses from left p r
answered_uses from (Preparing p left) (Reply.Prepared r) = prepared_uses from left p r
answered_uses from (Confirming p) (Reply.Confirmed confirmed.Yes) = tt
answered_uses from (Confirming p) (Reply.Confirmed (confirmed.Conflict h m)) = tt
answered_uses from (Confirming p) (Reply.Confirmed (confirmed.Changed w)) = tt
answered_uses from (Confirming p) (Reply.Confirmed (confirmed.NoStores x)) = tt
answered_uses from (Confirming p) (Reply.Confirmed (confirmed.Listed x s)) = tt
answered_uses from m r = refl

lost_uses : (m : Machine) → StepUses (used_of m) (commit.given_up m).step
lost_uses (Voting p left) = tt
lost_uses (Preparing p left) = subst (λ us. StepUses us (let k = stores_left [] (marks_stores left p) in k.step)) (marked_uses left p)
    (stores_uses [] (marks_stores left p))
lost_uses (Confirming p) = tt

start_uses : (p : Plan) → StepUses p.used (commit.start p).step
start_uses p = vote_uses (servers_of p) p

-- ---- roots

-- a change of a root keeps what it has noted of includes
abbrev pub Grows : (Root → Root) → Type 0
Grows f = (r : Root) (x s : ℕ) (us : List Uid) → HasJoined x s us r → HasJoined x s us (f r)

grows_by : (f : Root → Root) → ((r : Root) → (f r).joined ≡ r.joined) → Grows f
grows_by f same r x s us (j, there, path, at, store) = (j, subst (λ js. Contains js j) (sym (same r)) there, path, at, store)

joined_more : (j : Joined) (js : List Joined) (i : Joined) → In i js →
    (z : Joined) × In z (joined_with j js) × (z.path ≡ i.path) × (z.x ≡ i.x) × (z.store ≡ i.store)
joined_more j [] i there = absurd there
joined_more j (v ∷ vs) i there = by (same_join j v) there (joined_more j vs i)
  where
    by : (b : Bool) → In i (v ∷ vs) → (In i vs → (z : Joined) × In z (joined_with j vs) × (z.path ≡ i.path) × (z.x ≡ i.x) × (z.store
        ≡ i.store)) → (z : Joined) × In z (cond b (record v { loaded = later_state v.loaded j.loaded } ∷ vs) (v ∷ joined_with j vs))
        × (z.path ≡ i.path) × (z.x ≡ i.x) × (z.store ≡ i.store)
    by true (inl same) ih = (
      record v { loaded = later_state v.loaded j.loaded },
      inl refl,
      ap (λ (z : Joined). z.path) same,
      ap (λ (z : Joined). z.x) same,
      ap (λ (z : Joined). z.store) same,
    )
    by true (inr k) ih = (i, inr k, refl, refl, refl)
    by false (inl same) ih =
        (v, inl refl, ap (λ (z : Joined). z.path) same, ap (λ (z : Joined). z.x) same, ap (λ (z : Joined). z.store) same)
    by false (inr k) ih = let r = ih k in (r.0, inr r.1, r.2, r.3, r.4)

said_joined : (t : Said) (r : Root) → (with_said t r).joined ≡ r.joined
said_joined t r = by (list_any (same_said t) r.said)
  where
    by : (b : Bool) → (let q : Root = cond b r (record r { said = r.said ++ t ∷ [] }) in q.joined) ≡ r.joined
    by true = refl
    by false = refl

heard_grows : (s : Steps) (e : CallEnd) → Grows (root_heard s e)
heard_grows s (Answered a) r x n us h =
    grows_by (root_heard s (Answered a)) (λ q. said_joined (record { path = uids_of s.path; x = s.x }) q) r x n us h
heard_grows s (Included st) r x n us (i, there, path, at, store) =
    let new : Joined = record { path = uids_of s.path; x = s.x; store = store_of s.goal; loaded = st } in
    let z = joined_more new r.joined i (in_from i r.joined there) in
    (z.0, in_to z.0 (joined_with new r.joined) z.1, z.2 ∙ path, z.3 ∙ at, z.4 ∙ store)
heard_grows s (Conflict h m k) r x n us is = is
heard_grows s (Changed k w) r x n us is = is
heard_grows s (Lost k b) r x n us is = is

-- ---- what holds of a coordinator is kept by each thing that it does

-- What holds of a coordinator is left by changes of its tree and of its tolds, by actions that go idle or call, by roots that keep their
-- notes, and by commits that go on as this asks.
pub record Closed (P : List ℕ → Machine → Type 0) (Q : Coord → Type 0) : Type 0 where
  pub tree : (c : Coord) (t : Tree) → ((w : Uid) → is_own w t ≡ is_own w c.tree) → Q c → Q (record c { tree = t })
  pub plain : (u : Uid) (f : Doing → Doing) (c : Coord) →
      ((d : Doing) → ((f d).label ≡ d.label) × ((m : Machine) → (f d).now ≡ Committing m → d.now ≡ Committing m)) → Q c → Q (on_doing u f c)
  pub goes : (u : Uid) (m : Machine) (c : Coord) → ((d : Doing) → doing_of u c ≡ Some d → P (name d.label) m) → Q c → Q (commits_in u m c)
  pub root : (r : Uid) (f : Root → Root) (c : Coord) → Grows f → Q c → Q (on_root r f c)
  pub telling : (c : Coord) (ts : List (Uid × Intent)) → Q c → Q (record c { telling = ts })
  pub has : (c : Coord) (u : Uid) (d : Doing) (m : Machine) → Q c → doing_of u c ≡ Some d → d.now ≡ Committing m → P (name d.label) m
  pub same : (l : List ℕ) (m n : Machine) → (let p = plan_of n in p.used) ≡ (let p = plan_of m in p.used) → P l m → P l n

module _ (P : List ℕ → Machine → Type 0) (Q : Coord → Type 0) (k : Closed P Q) where
  idles : (u : Uid) (c : Coord) → Q c → Q (on_doing u (λ (d : Doing). record d { now = Idle }) c)
  idles u c q = k.plain u (λ (d : Doing). record d { now = Idle }) c
      (λ d. (refl, λ m is. let no_way : ◌≡◌ {A = Now} Idle (Committing m) = is in absurd (cc no_way))) q

  ends : (u : Uid) (how : End) (c : Coord) → Q c → Q (ended u how c)
  ends u how c q = let g = end_tree_on u how c in
      idles u (record c { tree = ended_at u how c.tree }) (k.tree c (ended_at u how c.tree) g.own q)

  all_end : (us : List Uid) (c : Coord) → Q c → Q (all_aborted us c).part
  all_end [] c q = q
  all_end (u ∷ us) c q = all_end us (ended u ending.Abort c) (ends u ending.Abort c q)

  asks_one : (p : Path) (req : ℕ) (a : ℕ × Ask) (c : Coord) → Q c → Q (asks_node p req a c).part
  asks_one p req a c q = let went : Went = record { path = uids_of p; node = a.0; invoke = is_invoke_ask a.1 } in
      k.root (root_of p) (with_went went) c (grows_by (with_went went) (let z = went_keeps went in z.joined)) q

  asks_each : (p : Path) (req : ℕ) (asked : List (ℕ × Ask)) (c : Coord) → Q c → Q (asks_all p req asked c).part
  asks_each p req [] c q = q
  asks_each p req (a ∷ rest) c q = asks_each p req rest (asks_node p req a c).part (asks_one p req a c q)

  goes_step : (s : Steps) (c : Coord) → Q c → Q (goes_on s c).part
  goes_step s c q =
      let e = on_doing (actor s.path) (λ (d : Doing). record d { req = s.req; now = Calling s }) c in
      asks_one s.path s.req (next_node s, next_ask (ends_of (root_of s.path) e.tree) s) e
      (k.plain (actor s.path) (λ (d : Doing). record d { req = s.req; now = Calling s }) c
      (λ d. (refl, λ m is. let no_way : ◌≡◌ {A = Now} (Calling s) (Committing m) = is in absurd (cc no_way))) q)

  call_step : (s : Steps) (n : CallStep) (c : Coord) → Q c → Q (step_call s n c).part
  call_step s (On at) c q = goes_step (record s { req = s.req + 1; at = at }) c q
  call_step s (Ended e) c q = by e refl
    where
      told : CallEnd → Coord
      told h = on_root (root_of s.path) (root_heard s h) (on_doing (actor s.path) (λ (d : Doing). record d { now = Idle }) c)

      so : (h : CallEnd) → Q (told h)
      so h = k.root (root_of s.path) (root_heard s h) (on_doing (actor s.path) (λ (d : Doing). record d { now = Idle }) c)
          (heard_grows s h) (idles (actor s.path) c q)

      by : (h : CallEnd) → e ≡ h → Q (doomed_by (actor s.path) h (told h))
      by (Answered x) is = so (Answered x)
      by (Included st) is = so (Included st)
      by (Conflict h x n) is = so (Conflict h x n)
      by (Changed n w) is = so (Changed n w)
      by (Lost n false) is = so (Lost n false)
      by (Lost n true) is = let t = told (Lost n true) in let g = doomed_same (actor s.path) t.tree in
          k.tree t (doomed_at (actor s.path) t.tree) g.own (so (Lost n true))

  decides : (p : Plan) (c : Coord) → Q c → Q (decide p c).part
  decides p c q = by (has_record p)
    where
      u : Uid
      u = actor p.path

      two : Coord
      two = on_doing u (λ (d : Doing). record d { took = participants p }) (ended u ending.Commit c)

      its : Q (on_root (root_of p.path) (root_after p) two)
      its = k.root (root_of p.path) (root_after p) two (grows_by (root_after p) (λ r. refl)) (k.plain u (λ (d : Doing).
          record d { took = participants p }) (ended u ending.Commit c) (λ d. (refl, λ m is. is)) (ends u ending.Commit c q))

      by : (b : Bool) → Q (cond b (record (on_root (root_of p.path) (root_after p) two) {
        telling = put_uid u
            (record { root = root_of p.path; nodes = participants p }) (on_root (root_of p.path) (root_after p) two).telling;
      })
          (on_root (root_of p.path) (root_after p) two))
      by true = k.telling (on_root (root_of p.path) (root_after p) two)
          (put_uid u (record { root = root_of p.path; nodes = participants p }) (on_root (root_of p.path) (root_after p) two).telling) its
      by false = its

  -- a commit's step, with uses of which this holds
  moves_by : (u : Uid) (s : CommitStep) (intents : List (Uid × Intent)) (c : Coord) (us : List Used) → StepUses us s →
      ((m : Machine) → (let p = plan_of m in p.used) ≡ us → (d : Doing) → doing_of u c ≡ Some d → P (name d.label) m) → Q c →
      Q (step_commit u s intents c).part
  moves_by u (Stays m) intents c us same fits q = k.goes u m c (fits m same) q
  moves_by u (Asks m) intents c us same fits q =
      asks_each (plan_of m).path (plan_of m).req (waiting m) (commits_in u m c) (k.goes u m c (fits m same) q)
  moves_by u (Decides p) intents c us same fits q = decides p c q
  moves_by u (Aborts why p) intents c us same fits q = ends u ending.Abort c q

  -- of a commit under way
  moves : (u : Uid) (d : Doing) (m : Machine) → (mk : Marked) → StepUses (used_of m) mk.step → (intents : List (Uid × Intent)) (c : Coord) →
      doing_of u c ≡ Some d → d.now ≡ Committing m → Q c → Q (moved_commit u mk intents c).part
  moves u d m mk same intents c found now q = moves_by u mk.step intents c (used_of m) same
      (λ n uses e at. k.same (name e.label) m n uses (k.has c u e m q at (ap (λ (z : Doing). z.now) (one e at) ∙ now))) q
    where
      one : (e : Doing) → doing_of u c ≡ Some e → e ≡ d
      one e at = let z : ◌≡◌ {A = Option Doing} (Some e) (Some d) = sym at ∙ found in cc z

  pub hears : (from : ℕ) (a : Asked) (r : Reply) (intents : List (Uid × Intent)) (c : Coord) → Q c → Q (heard from a r intents c).part
  hears from a r intents c q = by (doing_of a.act c) refl
    where
      now : (d : Doing) → doing_of a.act c ≡ Some d → (n : Now) → d.now ≡ n → Q (heard_now from a r intents c n).part
      now d found Idle is = q
      now d found (Calling s) is = one (waits_for_call from a r s)
        where
          its : Q (heard_call s r c).part
          its =
              let m = answered (is_free (root_of s.path) (actor s.path) s.x c) (kept_at s c) s.goal s.at r in
              call_step s m.step (on_root (root_of s.path) (root_moved s r m) c)
              (k.root (root_of s.path) (root_moved s r m) c (grows_by (root_moved s r m) (let z = moved_keeps s r m in z.joined)) q)

          one : (w : Bool) → Q (cond {A = Served Coord (Unit {0})} w (heard_by (heard_call s r c)) (heard_none c)).part
          one true = its
          one false = q
      now d found (Committing m) is = one (waits_for_commit from a r m)
        where
          one : (w : Bool) → Q (cond {A = Served Coord (Unit {0})} w (heard_by (moved_commit a.act (commit.answered from m r) intents c))
              (heard_none c)).part
          one true = moves a.act d m (commit.answered from m r) (answered_uses from m r) intents c found is q
          one false = q

      by : (o : Option Doing) → doing_of a.act c ≡ o → Q (heard_doing from a r intents c o).part
      by None is = q
      by (Some d) is = now d is d.now refl

  gives : (u : Uid) (intents : List (Uid × Intent)) (c : Coord) → Q c → Q (give_up u intents c).part
  gives u intents c q = by (doing_of u c) refl
    where
      now : (d : Doing) → doing_of u c ≡ Some d → (n : Now) → d.now ≡ n → Q (gives_up u intents c n).part
      now d found Idle is = q
      now d found (Calling s) is = call_step s (given_up s.at) (on_root (root_of s.path) (root_lost s (given_up s.at)) c)
          (k.root (root_of s.path) (root_lost s (given_up s.at)) c (grows_by (root_lost s (given_up s.at)) (λ r. refl)) q)
      now d found (Committing m) is = moves u d m (commit.given_up m) (lost_uses m) intents c found is q

      by : (o : Option Doing) → doing_of u c ≡ o → Q (give_up_doing u intents c o).part
      by None is = q
      by (Some d) is = now d is d.now refl

  pub agains : (ds : List Doing) (c : Coord) → Q c → Q (again_all ds c).part
  agains [] c q = q
  agains (d ∷ ds) c q = agains ds (again_now c d.now).part (by d.now)
    where
      by : (n : Now) → Q (again_now c n).part
      by Idle = q
      by (Calling s) = asks_one s.path s.req (next_node s, next_ask (ends_of (root_of s.path) c.tree) s) c q
      by (Committing m) = asks_each (plan_of m).path (plan_of m).req (waiting m) c q

  pub acks : (from : ℕ) (u : Uid) (intents : List (Uid × Intent)) (c : Coord) → Q c → Q (acked from u intents c).part
  acks from u intents c q = by (at_uid u c.telling)
    where
      left : (i : Intent) (ns : List ℕ) → Q (acked_left u i intents c ns).part
      left i [] = k.telling c _ q
      left i (n ∷ ns) = k.telling c _ q

      by : (o : Option Intent) → Q (acked_by from u intents c o).part
      by None = q
      by (Some i) = one (has i.nodes from)
        where
          one : (b : Bool) → Q (cond {A = Served Coord (Unit {0})} b (acked_left u i intents c (without_number from i.nodes))
              (record { part = c; outs = []; reply = None })).part
          one true = left i (without_number from i.nodes)
          one false = q

  used_in : (p : Path) (x : ℕ) (c : Coord) → Q c → Q (record c { tree = uses_object p x c.tree })
  used_in p x c q = let g = uses_same p x c.tree in k.tree c (uses_object p x c.tree) g.own q

  -- an input, where this holds of a commit that it calls
  pub does : (i : Input) (intents : List (Uid × Intent)) (c : Coord) →
      ((l : Label) (how : Kind) (parent : Option Label) → i ≢ input.Begin l how parent)
      → ((l : Label) (b : Branch) → i ≡ input.Commit l → branch_named l c ≡ Some b → is_top b.kind ≡ true →
      (acts i intents c).outs ≡ (commit_top b.path intents c).outs
      → (m : Machine) → (let p = plan_of m in p.used) ≡ (let p = plan_for b.path (last_req (doing_of (actor b.path) c))
      (root_at (root_of b.path) c) c in p.used) → (d : Doing) → doing_of (actor b.path) c ≡ Some d → P (name d.label) m)
      → Q c → Q (acts i intents c).part
  does i intents c other fresh q = by i refl
    where
      by : (j : Input) → i ≡ j → Q (acts j intents c).part
      by (input.Begin l how parent) same = absurd (other l how parent same)
      by (input.Call l x o) same = one (branch_named l c)
        where
          one : (f : Option Branch) → Q (on_branch (λ b. call b.path x o c) c f).part
          one None = q
          one (Some b) = goes_step (call_steps b.path x o (next_req (actor b.path) c) root c kept)
              (on_root (root_of b.path) (with_keeping x kept) (record c { tree = uses_object b.path x c.tree }))
              (k.root (root_of b.path) (with_keeping x kept) (record c { tree = uses_object b.path x c.tree })
              (grows_by (with_keeping x kept) (λ r. refl)) (used_in b.path x c q))
            where
              root : Root
              root = root_at (root_of b.path) c

              kept : Keeping
              kept = renewed (is_free (root_of b.path) (actor b.path) x c) (keeping_of x root) (let h = keeping_of x root in h.kept)
      by (input.Include l x n) same = one (branch_named l c)
        where
          one : (f : Option Branch) → Q (on_branch (λ b. include b.path x n c) c f).part
          one None = q
          one (Some b) = goes_step (calls.start b.path x (Include n) None unbound (next_req (actor b.path) c))
              (record c { tree = uses_object b.path x c.tree }) (used_in b.path x c q)
      by (input.Commit l) same = one (branch_named l c) refl
        where
          one : (f : Option Branch) → branch_named l c ≡ f → Q (on_branch (λ b. commit_action b intents c) c f).part
          one None at = q
          one (Some b) at = doomed b.doomed refl
            where
              outs_are : (acts i intents c).outs ≡ (commit_action b intents c).outs
              outs_are = ap (λ j. (acts j intents c).outs) same ∙ ap (λ f. (on_branch (λ z. commit_action z intents c) c f).outs) at

              top : (how : Kind) → b.doomed ≡ false → b.kind ≡ how → is_top how ≡ true →
                  (commit_open b intents c how).outs ≡ (commit_top b.path intents c).outs → Q (commit_top b.path intents c).part
              top how off is upper same_outs =
                  let plan = plan_for b.path (last_req (doing_of (actor b.path) c)) (root_at (root_of b.path) c) c in
                  moves_by (actor b.path) (commit.start plan).step intents c plan.used (start_uses plan)
                  (fresh l b same at (ap is_top is ∙ upper) (outs_are ∙ (λ z. (cond {A = Did Coord} (off z)
                  (aborts_with (actor b.path) cause.Doomed intents c) (commit_open b intents c (is z))).outs) ∙ same_outs)) q

              kinds : (how : Kind) → b.doomed ≡ false → b.kind ≡ how → Q (commit_open b intents c how).part
              kinds kind.Nested off is = ends (actor b.path) ending.Commit c q
              kinds kind.Serial off is = ends (actor b.path) ending.Commit c q
              kinds kind.Top off is = top kind.Top off is refl refl
              kinds kind.Independent off is = top kind.Independent off is refl refl
              kinds kind.Constituent off is = top kind.Constituent off is refl refl

              doomed : (d : Bool) → b.doomed ≡ d →
                  Q (cond {A = Did Coord} d (aborts_with (actor b.path) cause.Doomed intents c) (commit_open b intents c b.kind)).part
              doomed true is = ends (actor b.path) ending.Abort c q
              doomed false is = kinds b.kind is refl
      by (input.Abort l) same = one (branch_named l c)
        where
          one : (f : Option Branch) → Q (on_branch (λ b. abort_action (actor b.path) intents c) c f).part
          one None = q
          one (Some b) = all_end (open_below (actor b.path) c.tree ++ actor b.path ∷ []) c q
      by (input.GiveUp l) same = one (branch_named l c)
        where
          one : (f : Option Branch) → Q (on_branch (λ b. give_up (actor b.path) intents c) c f).part
          one None = q
          one (Some b) = gives (actor b.path) intents c q
      by _ same = q

-- ---- commits, notes and incarnations

-- what commits under way include, by a book
pub plans_closed : (V : Book) → Closed (FitsIncludes V) (PlansInclude V)
plans_closed V = record {
  tree = λ c t own q u d m found now. q u d m ((λ i. cond (sym (own u) i) (at_place u.num c.doings) None) ∙ found) now;
  plain = λ u f c keeps q w d m found now. ⊎_elim
      (λ same. let p = same.1 in let h = keeps p in subst (λ l. FitsIncludes V (name l) m) (sym h.0 ∙ ap (λ (z : Doing). z.label) same.3)
      (q w p m same.2 (h.1 m (ap (λ (z : Doing). z.now) same.3 ∙ now))))
      (λ off. q w d m off.1 now)
      (on_cases u f c w d found);
  goes = λ u n c fits q w d m found now. ⊎_elim
      (λ same.
      let e : ◌≡◌ {A = Now} (Committing n) (Committing m) = ap (λ (z : Doing). z.now) same.3 ∙ now in
      subst (FitsIncludes V (name d.label)) (let z : n ≡ m = cc e in z) (subst (λ l. FitsIncludes V (name l) n)
      (ap (λ (z : Doing). z.label) same.3) (fits same.1 (ap (λ v. doing_of v c) (sym same.0) ∙ same.2))))
      (λ off. q w d m off.1 now)
      (on_cases u (λ (d : Doing). record d { req = (plan_of n).req; now = Committing n }) c w d found);
  root = λ r f c grows q. q;
  telling = λ c ts q. q;
  has = λ c u d m q found now. q u d m found now;
  same = λ l m n uses fits. fits_step V l m n uses fits;
}

-- a note of an include
pub notes_closed : (root : Uid) (x s : ℕ) (us : List Uid) → Closed (λ l m. ⊤) (λ c. HasJoined x s us (root_in root c.roots))
notes_closed root x s us = record {
  tree = λ c t own q. q;
  plain = λ u f c keeps q. subst (λ rs. HasJoined x s us (root_in root rs)) (sym (on_roots u f c)) q;
  goes = λ u m c fits q. subst (λ rs. HasJoined x s us (root_in root rs))
      (sym (on_roots u (λ (d : Doing). record d { req = (plan_of m).req; now = Committing m }) c)) q;
  root = λ r f c grows q. ⊎_elim (λ same. subst (HasJoined x s us) (sym same.1) (grows (root_at root c) x s us q))
      (λ same. subst (HasJoined x s us) (sym same) q) (root_cases r f c root);
  telling = λ c ts q. q;
  has = λ c u d m q found now. tt;
  same = λ l m n uses fits. tt;
}

-- whose actions it has
pub own_closed : (w : Uid) (b : Bool) → Closed (λ l m. ⊤) (λ c. is_own w c.tree ≡ b)
own_closed w b = record {
  tree = λ c t own q. own w ∙ q;
  plain = λ u f c keeps q. ap (is_own w) (on_tree u f c) ∙ q;
  goes = λ u m c fits q. ap (is_own w) (on_tree u (λ (d : Doing). record d { req = (plan_of m).req; now = Committing m }) c) ∙ q;
  root = λ r f c grows q. q;
  telling = λ c ts q. q;
  has = λ c u d m q found now. tt;
  same = λ l m n uses fits. tt;
}
