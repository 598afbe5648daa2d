-- Commits leave a coordinator with what it has to know of calls: a plan knows of each call below its top.
use Rattle.arj_law_parts.proofs.Words
use Words.{◌≡◌, ◌≢◌, ◌≤◌, ◌==◌, ◌&&◌, ◌||◌, ℕ, List, [], ◌∷◌, Bool, true, false, cond, Option, Some, None, refl, sym, ◌∙◌, ap, subst, inr}
use Words.{⊎_elim, arith, length, find, is_some, uid_cases, Uid, Asked, Message, ObjectState, End, Kind, first_uid, is_on, uid_eq, uids_of}
use Words.{Reply, actor, answers, commit_open, commit_top, commits_in, last_req, step_commit, Steps, Aborts, Asks, CommitStep, Decides}
use Words.{Machine, Plan, Stays, Used, plan_of, servers_of, Calling, Committing, Coord, Doing, Idle, Now, Root, doing_of, kept_of, on_doing}
use Words.{plan_for, root_at, Intent, ended, Branch, behind, branch_of, ended_so, has_end, has_open_child, is_merged, root_of, Post}
use Words.list
use Words.ending
use Words.kind
use Words.voted
use Words.commit
use Rattle.arj_law_runs.proofs.Terms
use Terms.{Action, IsAsking, IsBusy, IsGoodCoord, IsTree, Paths, IsDecided, on_own, stand_ended, IsStepOf, on_tree, vote_step, all_over, In}
use Terms.{Call, Answered, IsCalledBy, Doomed, HasNoServer, IsCovered, IsDoomed, IsFree, IsOver, IsOwn, IsPlanned, IsUsed, IsWaiting}
use Terms.{KnowsCalls, Nowhere, Refused, Spent, WasRefused, WasSpent}
use Rattle.arj_law_runs.proofs.{calls.CoordCalls.not_idle, calls.CoordStarts.asks_known, calls.ServerCalls.never, calls.ServerCalls.some_is}
use Rattle.arj_law_runs.proofs.calls.CommitPlans.{IsLater, IsNextOf, is_used, unmerged, vote_next}
use Rattle.arj_law_runs.proofs.calls.CoordEnds.{aborts_ended, decide_known, ended_known}
use Rattle.arj_law_runs.proofs.calls.CoordKnown.{doing_here, knows_of, paths_same, roots_work}
use Rattle.arj_law_runs.proofs.calls.CoordSteps.{Goes, KeepsAborts, covered_on, goes_work, knowing_of, knowing_on}
use Rattle.arj_law_runs.proofs.calls.CoordTrees.{IsBelow, KeepsDoom, doom_is, is_below}
use Rattle.arj_law_runs.specs.calls.Coords.{AreVoted, IsSaid, IsThere}

committing_is : {m n : Machine} → Committing m ≡ Committing n → m ≡ n
committing_is is = cc

pub not_calling : {m : Machine} {s : Steps} → Committing m ≡ Calling s → ⊥
not_calling {m} {s} is = let no_way : ◌≡◌ {A = Now} (Committing m) (Calling s) = is in absurd (cc no_way)

module _ (paths : Paths) (sent : List Post) (c : Coord) (knows : KnowsCalls paths sent c) (u : Uid) (d : Doing)
    (found : doing_of u c ≡ Some d) (waits : (s : Steps) → d.now ≡ Calling s → ⊥) where
  -- a commit goes to a step
  commits_known : (m : Machine) → d.req ≤ (plan_of m).req → IsCovered sent c.tree c u m → KnowsCalls paths sent (commits_in u m c)
  commits_known m later covered = knows_of paths sent u (λ to k. ⊥) c v g (λ q at. (
    new d,
    here,
    inr (subst (λ (z : Doing). z.req ≤ (plan_of m).req) (some_is (sym found ∙ at)) later, λ s now. absurd (not_calling now)),
  )) knows
      (knowing_on sent v.tree u (λ to k. ⊥) c v g
      (knowing_of paths sent v.tree u (λ to k. ⊥) c aborts doom.doomed (λ w q n other at now f. doom.free w other f) (λ to k w same.
      waits w.step (ap (λ (z : Doing). z.now) (some_is (sym found ∙ ap (λ z. doing_of z c) (sym same) ∙ w.found)) ∙ w.now)) knows))
      (λ to k o none. absurd none) (λ q s at now. absurd (not_calling (ap (λ (z : Doing). z.now) (some_is (sym here ∙ at)) ∙ now)))
      (λ q n at now. let same : m ≡ n = committing_is (ap (λ (z : Doing). z.now) (some_is (sym here ∙ at)) ∙ now) in
      subst (IsCovered sent v.tree v u) same
      (covered_on sent v.tree u c v g.node g.own g.said u m (subst (λ t. IsCovered sent t c u m) (sym same_tree) covered)))
      (paths_same paths c v (roots_work u new c) knows.said)
    where
      new : Doing → Doing
      new q = record q { req = (plan_of m).req; now = Committing m }

      v : Coord
      v = on_doing u (λ (q : Doing). record q { req = (plan_of m).req; now = Committing m }) c

      same_tree : v.tree ≡ c.tree
      same_tree = on_tree u (λ (q : Doing). record q { req = (plan_of m).req; now = Committing m }) c

      g : Goes v.tree u c v
      g = goes_work v.tree u new c

      aborts : KeepsAborts c.tree v.tree
      aborts w a = subst (IsDecided w ending.Abort) (sym same_tree) a

      doom : KeepsDoom u c.tree v.tree
      doom = doom_is u c.tree v.tree (sym same_tree)

      here : doing_of u (on_doing u (λ (q : Doing). record q { req = (plan_of m).req; now = Committing m }) c)
          ≡ Some (record d { req = (plan_of m).req; now = Committing m })
      here = doing_here u new c d found

  -- what is known of one plan is known of a later one that uses and has changed the same
  after : (p : Plan) (m : Machine) → IsFree c.tree u → ((to : ℕ) (k : Call) → IsOwn sent c to k →
      is_on (uids_of (let h = k.head in h.path)) u ≡ true → IsPlanned sent c.tree c p.used to k) → AreVoted sent c u p → ((s : ObjectState)
      → list.In s p.changed → IsCalledBy sent c (uids_of p.path) s.uid.num) → IsLater p (plan_of m) → IsCovered sent c.tree c u m
  after p m free planned voted called next = record {
    free = free;
    calls = λ to k o on. subst (λ us. IsPlanned sent c.tree c us to k) (sym next.0) (planned to k o on);
    votes = λ from z a states i is same s j. let r = voted from z a states i is same s j in
        (subst (λ us. IsUsed us s.uid.num from) (sym next.0) r.0, subst (λ q. IsCalledBy sent c (uids_of q) s.uid.num) (sym next.3) r.1);
    changed = λ s i. subst (λ q. IsCalledBy sent c (uids_of q) s.uid.num) (sym next.3) (called s (subst (λ ss. list.In s ss) next.2 i));
  }

  pub step_known : (p : Plan) (step : CommitStep) (intents : List (Uid × Intent)) → d.req ≤ p.req → IsFree c.tree u →
      ((to : ℕ) (k : Call) → IsOwn sent c to k → is_on (uids_of (let h = k.head in h.path)) u ≡ true → IsPlanned sent c.tree c p.used to k)
      → AreVoted sent c u p → ((s : ObjectState) → list.In s p.changed → IsCalledBy sent c (uids_of p.path) s.uid.num) → IsNextOf p step →
      ((q : Plan) → step ≡ Decides q → actor q.path ≡ u)
      → ((b : Branch) → branch_of u c.tree ≡ Some b → is_some b.ended ≡ false) → KnowsCalls paths sent (step_commit u step intents c).part
  step_known p (Stays m) intents later free planned voted called next who opened =
      commits_known m (number d.req p.req (plan_of m).req later next.1) (after p m free planned voted called next)
    where
      number : (i j l : ℕ) → i ≤ j → j ≤ l → i ≤ l
      number i j l a b = omega (arith, a, b)
  step_known p (Asks m) intents later free planned voted called next who opened =
      asks_known paths sent (plan_of m).path (plan_of m).req (commit.waiting m) (commits_in u m c)
      (commits_known m (number d.req p.req (plan_of m).req later next.1) (after p m free planned voted called next))
    where
      number : (i j l : ℕ) → i ≤ j → j ≤ l → i ≤ l
      number i j l a b = omega (arith, a, b)
  step_known p (Decides q) intents later free planned voted called next who opened = let is = who q refl in
      decide_known paths sent q c (λ b f. opened b (ap (λ z. branch_of z c.tree) (sym is) ∙ f)) (subst (IsFree c.tree) (sym is) free)
      (λ z s at now. waits s (ap (λ (y : Doing). y.now) (some_is (sym found ∙ ap (λ w. doing_of w c) (sym is) ∙ at)) ∙ now)) knows
  step_known p (Aborts why q) intents later free planned voted called next who opened =
      ended_known paths sent u ending.Abort c (aborts_ended u c.tree) (λ is. let no_way : ending.Abort ≡ ending.Commit = is in
      cc) (λ z s at now. absurd (waits s (ap (λ (y : Doing). y.now) (some_is (sym found ∙ at)) ∙ now))) knows

-- ---- a top sets out to commit

on_behind : (u : Uid) (us : List Uid) (w : Uid) → is_on (behind u us) w ≡ true → is_on us w ≡ true
on_behind u [] w on = on
on_behind u (v ∷ vs) w on = by (uid_eq v u) on (on_behind u vs w)
  where
    last : (b : Bool) {q : Bool} → q ≡ true → (b || q) ≡ true
    last true h = refl
    last false h = h

    by : (b : Bool) → is_on (cond b vs (behind u vs)) w ≡ true → (is_on (behind u vs) w ≡ true → is_on vs w ≡ true) →
        (uid_eq v w || is_on vs w) ≡ true
    by true h ih = last (uid_eq v w) h
    by false h ih = last (uid_eq v w) (ih h)

aborted_end : (o : Option End) → is_some o ≡ true → o ≢ Some ending.Commit → o ≡ Some ending.Abort
aborted_end None over other = let no_way : false ≡ true = over in cc
aborted_end (Some ending.Abort) over other = refl
aborted_end (Some ending.Commit) over other = absurd (other refl)

module _ (acts : List Action) (paths : Paths) (tree : IsTree paths) (sent : List Post) (c : Coord) (good : IsGoodCoord acts paths c)
    (knows : KnowsCalls paths sent c) (here : (to : ℕ) (k : Call) → IsOwn sent c to k →
    (q : Branch) × (branch_of (actor (let h = k.head in h.path)) c.tree ≡ Some q) × (q.path ≡ (let h = k.head in h.path)))
    (b : Branch) (found : branch_of (actor b.path) c.tree ≡ Some b) (opened : is_some b.ended ≡ false)
    (childless : has_open_child (actor b.path) c.tree ≡ false) (sound : b.doomed ≡ false) (d : Doing) (work : doing_of (actor b.path) c
    ≡ Some d) (rest : d.now ≡ Idle) (unvoted : (from : ℕ) (m : Message) (a : Asked) (states : List ObjectState) →
    In (record { from = from; to = c.tree.node; message = m }) sent → answers m ≡ Some (a, Reply.Voted (voted.Yes states)) →
    a.act ≡ actor b.path → ⊥) where
  abbrev u : Uid
  u = actor b.path

  same_branch : (q : Branch) → branch_of u c.tree ≡ Some q → b ≡ q
  same_branch q f = some_is (sym found ∙ f)

  -- what is below it has ended
  below_over : (w : Uid) (q : Branch) → branch_of w c.tree ≡ Some q → is_on (uids_of q.path) u ≡ true → w ≢ u → is_some q.ended ≡ true
  below_over w q at on other = all_over paths tree c.tree good.tree.lists u good.tree.closed childless w q at on other

  covered : (req : ℕ) (to : ℕ) (k : Call) → IsOwn sent c to k → is_on (uids_of (let h = k.head in h.path)) u ≡ true →
      IsPlanned sent c.tree c (plan_for b.path req (root_at (root_of b.path) c) c).used to k
  covered req to k o on = ⊎_elim (λ w. absurd (waiting w)) (λ over. by over) (knows.calls to k o)
    where
      A : Uid
      A = actor (let h = k.head in h.path)

      q : (z : Branch) × (branch_of (actor (let h = k.head in h.path)) c.tree ≡ Some z) × (z.path ≡ (let h = k.head in h.path))
      q = here to k o

      on_it : is_on (uids_of (let z = q.0 in z.path)) u ≡ true
      on_it = ap (λ p. is_on (uids_of p) u) q.2 ∙ on

      its_path : uids_of (let h = k.head in h.path) ≡ paths (actor (let h = k.head in h.path))
      its_path = ap uids_of (sym q.2) ∙ good.tree.lists.paths_are (actor (let h = k.head in h.path)) q.0 q.1

      waiting : IsWaiting c to k → ⊥
      waiting w = ⊎_elim (λ same.
          not_idle (sym rest ∙ ap (λ (z : Doing). z.now) (some_is (sym work ∙ ap (λ z. doing_of z c) (sym same) ∙ w.found)) ∙ w.now))
          (λ other. let a : IsAsking c.tree A (let s = w.step in s.path) = subst (IsBusy c.tree A) w.now (good.busy A w.doing w.found) in
          never (below_over A q.0 q.1 on_it other) (ap (λ (z : Branch). is_some z.ended) (some_is (sym q.1 ∙ a.found)) ∙ a.opened))
          (uid_cases A u)

      doomed : IsDoomed c.tree A → IsPlanned sent c.tree c (plan_for b.path req (root_at (root_of b.path) c) c).used to k
      doomed (z, at, on_doom, uncommitted) = ⊎_elim (λ same.
          absurd (never on_doom (ap (λ (y : Branch). y.doomed) (some_is (sym at ∙ ap (λ y. branch_of y c.tree) same ∙ found)) ∙ sound)))
          (λ other. WasSpent (
            A,
            on_own (let h = k.head in h.path),
            (
              z,
              at,
              aborted_end z.ended (ap (λ (y : Branch). is_some y.ended) (some_is (sym at ∙ q.1)) ∙ below_over A q.0 q.1 on_it other)
                  uncommitted,
            ),
          )) (uid_cases A u)

      below : IsBelow paths tree c.tree good.tree.lists good.tree.closed u b found (paths A)
      below = is_below paths tree c.tree good.tree.lists good.tree.closed u b found (length (paths A)) A q.0 (omega arith) q.1
          (ap (λ us. is_on us u) (sym its_path) ∙ on)

      same_root : root_of (let h = k.head in h.path) ≡ root_of b.path
      same_root = ap first_uid its_path ∙ below.root ∙ ap first_uid (sym (good.tree.lists.paths_are u b found))

      said : (s : IsSaid c to k) → (m : Bool) → is_merged u (uids_of (let h = k.head in h.path)) c.tree ≡ m →
          IsPlanned sent c.tree c (plan_for b.path req (root_at (root_of b.path) c) c).used to k
      said s true merged =
          let r = root_at (root_of b.path) c in
          let same : root_at (root_of (let h = k.head in h.path)) c ≡ r = ap (λ z. root_at z c) same_root in
          let f = is_used b.path req r c s.said s.kept (subst (λ (z : Root). list.In s.said z.said) same s.there)
          (ap (λ x. kept_of x r) s.object ∙ ap (kept_of k.x) (sym same) ∙ s.keeps)
          ((λ i. is_on (s.path i) u && is_merged u (s.path i) c.tree) ∙ (λ i. on i && merged i)) in
          IsThere (f.0, ap (λ x. find (λ (z : Used). z.x == x) (plan_for b.path req r c).used) (sym s.object) ∙ f.1, f.2 ∙ s.server, f.3)
          (record { said = s.said; there = s.there; path = s.path; object = s.object })
      said s false unmerged_is =
          let w = unmerged u (uids_of (let h = k.head in h.path)) c.tree unmerged_is in
          let z = below.over childless w.0 (ap (λ us. is_on (behind u us) w.0) (sym its_path) ∙ w.1) in
          WasSpent (
            w.0,
            on_behind u (uids_of (let h = k.head in h.path)) w.0 w.1,
            (
              z.0,
              z.1,
              aborted_end (let y = z.0 in y.ended) z.2 (λ is. never (ap (ended_so ending.Commit) z.1 ∙ ap (has_end ending.Commit) is) w.2),
            ),
          )

      by : IsOver sent c.tree c to k → IsPlanned sent c.tree c (plan_for b.path req (root_at (root_of b.path) c) c).used to k
      by (Refused r) = WasRefused r
      by (Nowhere z) = HasNoServer z
      by (Doomed z) = doomed z
      by (Spent s) = WasSpent s
      by (Answered s) = said s (is_merged u (uids_of (let h = k.head in h.path)) c.tree) refl

  waits : (s : Steps) → d.now ≡ Calling s → ⊥
  waits s now = not_idle (sym rest ∙ now)

  top_known : (intents : List (Uid × Intent)) → KnowsCalls paths sent (commit_top b.path intents c).part
  top_known intents = step_known paths sent c knows u d work waits plan (commit.start plan).step intents
      (subst (λ n. d.req ≤ n) (sym (ap last_req work)) (omega arith)) (λ q f. ap (λ (z : Branch). z.doomed) (sym (same_branch q f)) ∙ sound)
      (covered (last_req (doing_of u c))) (λ from m a states i is same s j. absurd (unvoted from m a states i is same))
      (λ s none. absurd none) (vote_next (servers_of plan) plan plan (refl, omega arith, refl, refl)) who
      (λ q f. ap (λ (z : Branch). is_some z.ended) (sym (same_branch q f)) ∙ opened)
    where
      plan : Plan
      plan = plan_for b.path (last_req (doing_of u c)) (root_at (root_of b.path) c) c

      step_is : IsStepOf acts paths tree plan (commit.start plan).step
      step_is = vote_step acts paths tree (servers_of plan) plan plan (refl, refl)

      decides_it : (s : CommitStep) → IsStepOf acts paths tree plan s → (q : Plan) → s ≡ Decides q → q.path ≡ plan.path
      decides_it (Decides z) same q is = let e : z ≡ q = decides_is is in ap (λ (y : Plan). y.path) (sym e) ∙ same.0
        where
          decides_is : {a b : Plan} → Decides a ≡ Decides b → a ≡ b
          decides_is is = cc
      decides_it (Stays m) same q is = absurd (cc is)
      decides_it (Asks m) same q is = absurd (cc is)
      decides_it (Aborts why z) same q is = absurd (cc is)

      who : (q : Plan) → (commit.start plan).step ≡ Decides q → actor q.path ≡ u
      who q is = ap actor (decides_it (commit.start plan).step step_is q is)

  commit_known : KnowsCalls paths sent (ended u ending.Commit c)
  commit_known = ended_known paths sent u ending.Commit c (λ w a. (stand_ended u ending.Commit c.tree (λ q f. ap
      (λ (z : Branch). is_some z.ended) (sym (same_branch q f)) ∙ opened)).ends w ending.Abort a) (λ is q f. ap (λ (z : Branch). z.doomed)
      (sym (same_branch q f)) ∙ sound) (λ z s at now. absurd (waits s (ap (λ (y : Doing). y.now) (some_is (sym work ∙ at)) ∙ now))) knows

  pub open_known : (intents : List (Uid × Intent)) (k : Kind) → KnowsCalls paths sent (commit_open b intents c k).part
  open_known intents kind.Nested = commit_known
  open_known intents kind.Serial = commit_known
  open_known intents kind.Top = top_known intents
  open_known intents kind.Independent = top_known intents
  open_known intents kind.Constituent = top_known intents
