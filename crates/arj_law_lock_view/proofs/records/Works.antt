-- The plans of the commits of a coordinator stay so through all that it does.
use Rattle.arj_law_parts.proofs.Words
use Words.{◌≡◌, ◌≢◌, ◌⊎◌, ◌∙◌, ◌≤◌, ◌+◌, ◌++◌, ℕ, zero, suc, Bool, true, false, cond, List, [], ◌∷◌, Option, Some, None, sym, ap, subst}
use Words.{inl, inr, ⊎_elim, Kind, Label, Op, Uid, Reply, actor, begin_action, call, call_steps, ends_call, give_up_call, goes_on}
use Words.{heard_call, include, kept_at, next_req, renewed, root_heard, root_lost, root_moved, step_call, CallEnd, CallStep, Ended, Include}
use Words.{On, Steps, answered, given_up, Machine, Plan, plan_of, Calling, Committing, Coord, Doing, Idle, doing_of, is_free, keeping_of}
use Words.{on_doing, on_root, plan_for, root_at, with_keeping, unbound, parent_of, Branch, Tree, at_place, branch_of, doomed_at, ended_at}
use Words.{is_own, root_of, uses_object, Post}
use Words.calls
use Rattle.arj_law_lock_view.proofs.Terms.{on_cases, doomed_same, uses_same, get_more, end_tree_on, IsPlanSo, KnowsKept, KnowsSent, Tests}
use Rattle.arj_law_lock_view.proofs.facts.{Kept.Place, Pieces.IsPlanned, Pieces.Pieces}
use Rattle.arj_law_lock_view.proofs.records.Plans.{called_so, further_so}
use Rattle.arj_law_runs.proofs.calls.CoordCalls.{not_both}

idle_not : {m : Machine} → Idle ≡ Committing m → ⊥
idle_not is = cc is

machine_is : {m n : Machine} → Committing m ≡ Committing n → m ≡ n
machine_is is = cc is

module _ (T : Tests) (sent : List Post) (k : ℕ) where
  -- each plan is so
  abbrev pub AllPlans : Coord → Type 0
  AllPlans e = (u : Uid) (d : Doing) (m : Machine) → doing_of u e ≡ Some d → d.now ≡ Committing m → IsPlanSo T sent k u (plan_of m)

  plan_tree : (e : Coord) (v : Tree) → ((w : Uid) → is_own w v ≡ is_own w e.tree) → AllPlans e → AllPlans (record e { tree = v })
  plan_tree e v own all u d m at now = all u d m ((λ i. cond (sym (own u) i) (at_place u.num e.doings) None) ∙ at) now

  plan_work : (u : Uid) (f : Doing → Doing) (e : Coord) → ((d : Doing) (m : Machine) → doing_of u e ≡ Some d → (f d).now ≡ Committing m →
      IsPlanSo T sent k u (plan_of m)) → AllPlans e → AllPlans (on_doing u f e)
  plan_work u f e new all w d m at now = by (on_cases u f e w d at)
    where
      by : ((w ≡ u) × (p : Doing) × (doing_of w e ≡ Some p) × (f p ≡ d)) ⊎ ((w ≢ u) × (doing_of w e ≡ Some d)) →
          IsPlanSo T sent k w (plan_of m)
      by (inl same) = subst (λ v. IsPlanSo T sent k v (plan_of m)) (sym same.0)
          (new same.1 m (ap (λ v. doing_of v e) (sym same.0) ∙ same.2) (ap (λ (z : Doing). z.now) same.3 ∙ now))
      by (inr other) = all w d m other.1 now

  plan_goes : (s : Steps) (e : Coord) → AllPlans e → AllPlans (goes_on s e).part
  plan_goes s e all =
      plan_work (actor s.path) (λ (d : Doing). record d { req = s.req; now = Calling s }) e (λ d m at now. absurd (not_both now)) all

  plan_step : (s : Steps) (n : CallStep) (e : Coord) → AllPlans e → AllPlans (step_call s n e).part
  plan_step s (On at) e all = plan_goes (record s { req = s.req + 1; at = at }) e all
  plan_step s (Ended h) e all = by h
    where
      idle : AllPlans (on_doing (actor s.path) (λ (d : Doing). record d { now = Idle }) e)
      idle = plan_work (actor s.path) (λ (d : Doing). record d { now = Idle }) e (λ d m at now. absurd (idle_not now)) all

      mid : CallEnd → Coord
      mid z = on_root (root_of s.path) (root_heard s z) (on_doing (actor s.path) (λ (d : Doing). record d { now = Idle }) e)

      lost : (n : ℕ) (b : Bool) → AllPlans (ends_call s (calls.Lost n b) e).part
      lost n true = plan_tree (mid (calls.Lost n true)) (doomed_at (actor s.path) (mid (calls.Lost n true)).tree)
          (λ w. (doomed_same (actor s.path) (mid (calls.Lost n true)).tree).own w) idle
      lost n false = idle

      by : (z : CallEnd) → AllPlans (ends_call s z e).part
      by (calls.Answered a) = idle
      by (calls.Included st) = idle
      by (calls.Conflict holder m n) = idle
      by (calls.Changed n w) = idle
      by (calls.Lost n b) = lost n b

  module _ (c : Coord) (place : Place sent k c) (down : (x v w : ℕ) → w ≤ v → T.past x v ≡ true →
      T.past x w ≡ true) (its_sent : KnowsSent sent k c) (knows : KnowsKept c T sent c) (all : AllPlans c) where
    planned_so : (u : Uid) (p : Plan) → IsPlanned c u p → IsPlanSo T sent k u p
    planned_so u p (inl w) = further_so T sent k u (plan_of w.machine) p w.further (all u w.doing w.machine w.found w.now)
    planned_so u p (inr w) = further_so T sent k u (plan_for b.path w.req (root_at (root_of b.path) c) c) p w.further
        (subst (λ v. IsPlanSo T sent k v (plan_for b.path w.req (root_at (root_of b.path) c) c)) who
        (called_so T sent k c place down its_sent knows b (ap (λ v. branch_of v c.tree) who ∙ w.found) w.opened w.top w.req))
      where
        b : Branch
        b = w.branch

        who : actor b.path ≡ u
        who = let g = place.good in g.tree.lists.places u b w.found

    pub plan_pieces : Pieces c AllPlans
    plan_pieces = record {
      start = all;
      end_tree = λ u how e q. plan_tree e (ended_at u how e.tree) (λ w. (end_tree_on u how e).own w) q;
      idle = λ u e q. plan_work u (λ (d : Doing). record d { now = Idle }) e (λ d m at now. absurd (idle_not now)) q;
      took = λ u ns e q. plan_work u (λ (d : Doing). record d { took = ns }) e (λ d m at now. q u d m at now) q;
      commits = λ u m e planned q. plan_work u (λ (d : Doing). record d { req = (plan_of m).req; now = Committing m }) e
          (λ d n at now. subst (λ z. IsPlanSo T sent k u (plan_of z)) (machine_is now) (planned_so u (plan_of m) planned)) q;
      asks = λ p req a e rooted q. q;
      decides = λ p e rooted q. q;
      telling = λ i e q. q;
    }

    pub plan_heard : (s : Steps) (r : Reply) → AllPlans (heard_call s r c).part
    plan_heard s r = let m = answered (is_free (root_of s.path) (actor s.path) s.x c) (kept_at s c) s.goal s.at r in
        plan_step s m.step (on_root (root_of s.path) (root_moved s r m) c) all

    pub plan_lost : (s : Steps) → AllPlans (give_up_call s c).part
    plan_lost s = plan_step s (given_up s.at) (on_root (root_of s.path) (root_lost s (given_up s.at)) c) all

    used : (b : Branch) (x : ℕ) → AllPlans (record c { tree = uses_object b.path x c.tree })
    used b x = plan_tree c (uses_object b.path x c.tree) (λ w. (uses_same b.path x c.tree).own w) all

    pub plan_call : (b : Branch) (x : ℕ) (o : Op) → AllPlans (call b.path x o c).part
    plan_call b x o =
        let old = keeping_of x (root_at (root_of b.path) c) in
        let q = renewed (is_free (root_of b.path) (actor b.path) x c) old old.kept in
        plan_goes (call_steps b.path x o (next_req (actor b.path) c) (root_at (root_of b.path) c) c q)
        (on_root (root_of b.path) (with_keeping x q) (record c { tree = uses_object b.path x c.tree })) (used b x)

    pub plan_include : (b : Branch) (x n : ℕ) → AllPlans (include b.path x n c).part
    plan_include b x n = plan_goes (calls.start b.path x (Include n) None unbound (next_req (actor b.path) c))
        (record c { tree = uses_object b.path x c.tree }) (used b x)

  pub plan_begin : (l : Label) (how : Kind) (parent : Option Label) (c : Coord) → AllPlans c →
      AllPlans (begin_action l how parent (parent_of parent c) c).part
  plan_begin l how parent c all u d m at now =
      ⊎_elim (λ old. all u d m old now) (λ idle. absurd (idle_not (sym idle ∙ now))) (was (is_own u c.tree) u.num d at)
    where
      fresh : Doing
      fresh = record { label = l; req = 0; now = Idle; took = [] }

      was : (b : Bool) (j : ℕ) (d : Doing) → cond b (at_place j (c.doings ++ fresh ∷ [])) None ≡ Some d →
          (cond b (at_place j c.doings) None ≡ Some d) ⊎ (d.now ≡ Idle)
      was true zero d at = absurd (cc at)
      was true (suc j) d at = ⊎_elim (λ old. inl old) (λ its. inr (ap (λ (z : Doing). z.now) (sym its.1))) (get_more j fresh d c.doings at)
      was false j d at = absurd (cc at)
