-- What a coordinator's roots keep stays in order as its work and its roots change, with its tree as it was.
use Rattle.arj_law_parts.proofs.Words
use Words.{◌≡◌, ◌≢◌, ◌⊎◌, ◌∙◌, ◌≤◌, ◌<◌, ◌++◌, ℕ, Bool, true, false, cond, List, [], ◌∷◌, Option, Some, None, refl, sym, ap, subst, inl}
use Words.{inr, ⊎_elim, arith, unwrap_or, list_any, is_eq, nat_cmp, uid_cases, Ask, Binding, End, Head, ObjectState, Path, Uid, asks}
use Words.{uids_of, top_of, asks_node, is_invoke_ask, At, AtActivate, AtBind, AtInvoke, AtLoad, AtNote, Goal, Include, Known, Run, Steps}
use Words.{Plan, plan_of, Calling, Committing, Coord, Doing, Grant, Idle, Joined, Keeping, Root, Said, Went, doing_of, keeping_of, kept_of}
use Words.{no_keeping, no_root, on_doing, on_root, root_at, same_went, with_went, keeping_after, root_after, states_after, at_number}
use Words.{binding_number, each, put_number, Branch, Tree, at_place, branch_of, ended_at, ended_branch, is_own, root_of, uses_object}
use Words.{put_same as put_number_same, put_other as put_number_other, one_or_two, Post}
use Words.list
use Words.ask
use Rattle.arj_law_lock_view.proofs.Terms
use Terms.{on_cases, on_roots, IsSameTree, on_tree, uses_same, after, at_others, at_u, ended_b, each_at, end_tree_on, IsSpent, not_idle}
use Terms.{went_keeping, not_calling, went_said, some_is, IncludeStands, IsIncluded, IsJoin, IsKept, IsOrdered, IsRecorded, KnowsKept}
use Terms.{StepStands, height, Tests}
use Rattle.arj_law_lock_view.proofs.{facts.Pieces.Pieces, records.Namings.none_not}
use Rattle.arj_law_lock_view.proofs.records.Moves.{StaysKept, call_stays, keeps_all, recorded_stays}
use Rattle.arj_law_parts.specs.moves.Seen.{In}

-- a grant stays with no later incarnation
abbrev pub GrantsStay : Root → Root → Type 0
GrantsStay r q = (g : Grant) → list.In g r.grants → (h : Grant) × list.In h q.grants × (h.x ≡ g.x) × (h.top ≡ g.top) × (h.least ≤ g.least)

module _ (T : Tests) where
  pub included_on : (r q : Root) → GrantsStay r q → (x : ℕ) (top : Uid) (g : ℕ) → IsIncluded T x top g r → IsIncluded T x top g q
  included_on r q stay x top g i = let f = stay i.grant i.there in record {
    asked = i.asked;
    grant = f.0;
    there = f.1;
    object = f.2 ∙ i.object;
    of = f.3 ∙ i.of;
    low = upto (f.0).least i.grant.least g f.4 i.low;
  }
    where
      upto : (a b c : ℕ) → a ≤ b → b ≤ c → a ≤ c
      upto a b c i j = omega (arith, i, j)

  include_on : (r q : Root) → GrantsStay r q → (x : ℕ) (top : Uid) (at : At) → IncludeStands T x top r at → IncludeStands T x top q at
  include_on r q stay x top (AtBind b) s = s
  include_on r q stay x top (AtLoad z n rest) s = included_on r q stay x top z.grant s
  include_on r q stay x top (AtActivate z st) s = s
  include_on r q stay x top (AtNote z i) s = s
  include_on r q stay x top (AtInvoke z i) s = s

  -- a step stands still where grants stay, and the object's keeping
  pub step_on : (r q : Root) → GrantsStay r q → (g : Goal) (x : ℕ) (top : Uid) (at : At) →
      ((let k = keeping_of x r in let l = keeping_of x q in StaysKept k.kept l.kept × (binding_number l.avoid ≡ binding_number k.avoid))) →
      StepStands T g x top r at → StepStands T g x top q at
  step_on r q stay (Run o) x top at keeping s =
      call_stays T x (keeping_of x r).kept (keeping_of x q).kept (keeping_of x r).avoid (keeping_of x q).avoid at keeping.0 keeping.1 s
  step_on r q stay (Include n) x top at keeping s = include_on r q stay x top at s

module _ (c : Coord) (T : Tests) (sent : List Post) where
  abbrev Knows : Coord → Type 0
  Knows e = KnowsKept c T sent e

  pub join_on : (r q : Root) → GrantsStay r q → (j : Joined) → IsJoin c T r j → IsJoin c T q j
  join_on r q stay j i = record {
    branch = i.branch;
    found = i.found;
    path = i.path;
    grant = i.grant;
    included = included_on T r q stay j.x (top_of (let b = i.branch in b.path)) i.grant i.included;
    loaded = i.loaded;
  }

  -- a root that goes on so
  pub record RootGoes (e : Coord) (root : Uid) (q : Root) : Type 0 where
    pub keeps : (x : ℕ) → IsOrdered T x (keeping_of x q)
    pub heights : (x : ℕ) → height (keeping_of x (root_at root e)) ≤ height (keeping_of x q)
    pub said : (s : Said) → list.In s q.said → (list.In s (let r = root_at root e in r.said)
        × (IsRecorded (kept_of s.x (root_at root e)) → IsSpent c.tree s.path ⊎ IsRecorded (kept_of s.x q))) ⊎ IsRecorded (kept_of s.x q)
    pub joined : (j : Joined) → list.In j q.joined → IsJoin c T q j
    pub states : (x : ℕ) (s : ObjectState) → at_number x q.states ≡ Some s → (let u = s.uid in u.num) ≡ x
    pub steps : (u : Uid) (d : Doing) (s : Steps) → doing_of u e ≡ Some d → d.now ≡ Calling s → root.num ≡ (root_of s.path).num →
        StepStands T s.goal s.x (top_of s.path) (root_at root e) s.at → StepStands T s.goal s.x (top_of s.path) q s.at

  pub root_kept : (root : Uid) (f : Root → Root) (e : Coord) → RootGoes e root (f (root_at root e)) → Knows e → Knows (on_root root f e)
  root_kept root f e goes knows = record { keeps = keeps; said = said; joined = joined; states = states; steps = steps; records = records }
    where
      as_root : (r : Uid) → root.num ≡ r.num → root_at r e ≡ root_at root e
      as_root r same = ap (λ n. unwrap_or (at_number n e.roots) no_root) (sym same)

      changed : (r : Uid) → root.num ≡ r.num → root_at r (on_root root f e) ≡ f (root_at root e)
      changed r same = ap (λ n. unwrap_or (at_number n (put_number root.num (f (root_at root e)) e.roots)) no_root) (sym same)
          ∙ ap (λ o. unwrap_or o no_root) (put_number_same root.num (f (root_at root e)) e.roots)

      left : (r : Uid) → is_eq (nat_cmp r.num root.num) ≡ false → root_at r (on_root root f e) ≡ root_at r e
      left r apart = ap (λ o. unwrap_or o no_root) (put_number_other root.num r.num (f (root_at root e)) e.roots apart)

      keeps : (r : Uid) (x : ℕ) → IsOrdered T x (keeping_of x (root_at r (on_root root f e)))
      keeps r x = ⊎_elim (λ same. subst (λ (z : Root). IsOrdered T x (keeping_of x z)) (sym (changed r same)) (goes.keeps x)) (λ apart.
          subst (λ (z : Root). IsOrdered T x (keeping_of x z)) (sym (left r apart.0)) (knows.keeps r x)) (one_or_two root.num r.num)

      said : (r : Uid) (s : Said) → list.In s (root_at r (on_root root f e)).said →
          IsSpent c.tree s.path ⊎ IsRecorded (kept_of s.x (root_at r (on_root root f e)))
      said r s i = ⊎_elim
          (λ same. subst (λ (z : Root). IsSpent c.tree s.path ⊎ IsRecorded (kept_of s.x z)) (sym (changed r same))
          (its (subst (λ (z : Root). list.In s z.said) (changed r same) i)))
          (λ apart. subst (λ (z : Root). IsSpent c.tree s.path ⊎ IsRecorded (kept_of s.x z)) (sym (left r apart.0))
          (knows.said r s (subst (λ (z : Root). list.In s z.said) (left r apart.0) i))) (one_or_two root.num r.num)
        where
          its : list.In s (f (root_at root e)).said → IsSpent c.tree s.path ⊎ IsRecorded (kept_of s.x (f (root_at root e)))
          its j = ⊎_elim (λ old. ⊎_elim (λ spent. inl spent) (λ rec. old.1 rec) (knows.said root s old.0)) (λ new. inr new) (goes.said s j)

      joined : (r : Uid) (j : Joined) → list.In j (root_at r (on_root root f e)).joined → IsJoin c T (root_at r (on_root root f e)) j
      joined r j i = ⊎_elim
          (λ same. subst (λ (z : Root). IsJoin c T z j) (sym (changed r same))
          (goes.joined j (subst (λ (z : Root). list.In j z.joined) (changed r same) i)))
          (λ apart. subst (λ (z : Root). IsJoin c T z j) (sym (left r apart.0))
          (knows.joined r j (subst (λ (z : Root). list.In j z.joined) (left r apart.0) i))) (one_or_two root.num r.num)

      states : (r : Uid) (x : ℕ) (s : ObjectState) → at_number x (root_at r (on_root root f e)).states ≡ Some s → s.uid.num ≡ x
      states r x s is = ⊎_elim
          (λ same. goes.states x s (sym (ap (λ (z : Root). at_number x z.states) (changed r same)) ∙ is))
          (λ apart. knows.states r x s (sym (ap (λ (z : Root). at_number x z.states) (left r apart.0)) ∙ is)) (one_or_two root.num r.num)

      steps : (u : Uid) (d : Doing) (s : Steps) → doing_of u e ≡ Some d → d.now ≡ Calling s →
          StepStands T s.goal s.x (top_of s.path) (root_at (root_of s.path) (on_root root f e)) s.at
      steps u d s found now = ⊎_elim
          (λ same. subst (λ (z : Root). StepStands T s.goal s.x (top_of s.path) z s.at) (sym (changed (root_of s.path) same))
          (goes.steps u d s found now same (subst (λ (z : Root). StepStands T s.goal s.x (top_of s.path) z s.at)
          (as_root (root_of s.path) same) (knows.steps u d s found now))))
          (λ apart. subst (λ (z : Root). StepStands T s.goal s.x (top_of s.path) z s.at) (sym (left (root_of s.path) apart.0))
          (knows.steps u d s found now)) (one_or_two root.num (root_of s.path).num)

      upto : (a b n : ℕ) → a ≤ b → b ≤ n → a ≤ n
      upto a b n i j = omega (arith, i, j)

      records : (p : Post) (h : Head) (x : ℕ) (b : Binding) (i g : ℕ) → In p sent → p.from ≡ c.tree.node →
          asks p.message ≡ Some (h, ask.Record x b i g) → is_own (top_of h.path) e.tree ≡ true →
          binding_number b ≤ height (keeping_of x (root_at (root_of h.path) (on_root root f e)))
      records p h x b i g there from is own = ⊎_elim
          (λ same. subst (λ (z : Root). binding_number b ≤ height (keeping_of x z)) (sym (changed (root_of h.path) same))
          (upto (binding_number b) (height (keeping_of x (root_at root e))) (height (keeping_of x (f (root_at root e))))
          (subst (λ (z : Root). binding_number b ≤ height (keeping_of x z)) (as_root (root_of h.path) same)
          (knows.records p h x b i g there from is own)) (goes.heights x)))
          (λ apart. subst (λ (z : Root). binding_number b ≤ height (keeping_of x z)) (sym (left (root_of h.path) apart.0))
          (knows.records p h x b i g there from is own)) (one_or_two root.num (root_of h.path).num)

  -- a root that keeps the same, or the same with more noted of it
  pub record RootStays (r q : Root) : Type 0 where
    pub keeping : (x : ℕ) →
        (let k = keeping_of x r in let l = keeping_of x q in StaysKept k.kept l.kept × (binding_number l.avoid ≡ binding_number k.avoid))
    pub ordered : (x : ℕ) → IsOrdered T x (keeping_of x q)
    pub heights : (x : ℕ) → height (keeping_of x r) ≤ height (keeping_of x q)
    pub grants : GrantsStay r q
    pub said : q.said ≡ r.said
    pub joined : q.joined ≡ r.joined
    pub states : (x : ℕ) (s : ObjectState) → at_number x q.states ≡ Some s → (let u = s.uid in u.num) ≡ x

  pub stays_goes : (root : Uid) (e : Coord) (q : Root) → Knows e → RootStays (root_at root e) q → RootGoes e root q
  stays_goes root e q knows stays = record {
    keeps = stays.ordered;
    heights = stays.heights;
    said = λ s i. inl (
      subst (λ ss. list.In s ss) stays.said i,
      λ rec. inr (recorded_stays (kept_of s.x (root_at root e)) (kept_of s.x q) (stays.keeping s.x).0 rec),
    );
    joined = λ j i. join_on (root_at root e) q stays.grants j (knows.joined root j (subst (λ js. list.In j js) stays.joined i));
    states = stays.states;
    steps = λ u d s found now same old. step_on T (root_at root e) q stays.grants s.goal s.x (top_of s.path) s.at (stays.keeping s.x) old;
  }

  -- the same keeping
  same_stays : (root : Uid) (e : Coord) (q : Root) → Knows e → (let r = root_at root e in (q.keeping ≡ r.keeping) × (q.grants ≡ r.grants)
      × (q.said ≡ r.said) × (q.joined ≡ r.joined) × (q.states ≡ r.states)) → RootStays (root_at root e) q
  same_stays root e q knows same = record {
    keeping = λ x. subst (λ (m : List (ℕ × Keeping)). (let k = keeping_of x (root_at root e) in
        let l = unwrap_or (at_number x m) no_keeping in StaysKept k.kept l.kept × (binding_number l.avoid ≡ binding_number k.avoid)))
        (sym same.0) (keeps_all (keeping_of x (root_at root e)).kept, refl);
    ordered =
        λ x. subst (λ (m : List (ℕ × Keeping)). IsOrdered T x (unwrap_or (at_number x m) no_keeping)) (sym same.0) (knows.keeps root x);
    heights = λ x. at_most (height (keeping_of x (root_at root e))) (height (keeping_of x q))
        (ap (λ m. height (unwrap_or (at_number x m) no_keeping)) (sym same.0));
    grants = λ g i. (g, subst (λ gs. list.In g gs) (sym same.1) i, refl, refl, omega arith);
    said = same.2;
    joined = same.3;
    states = λ x s is. knows.states root x s (sym (ap (at_number x) same.4) ∙ is);
  }
    where
      at_most : (a b : ℕ) → a ≡ b → a ≤ b
      at_most a b is = omega (arith, is)

  -- the work of one action
  pub work_kept : (u : Uid) (f : Doing → Doing) (e : Coord) → ((d : Doing) (s : Steps) → doing_of u e ≡ Some d → (f d).now ≡ Calling s →
      StepStands T s.goal s.x (top_of s.path) (root_at (root_of s.path) e) s.at) → Knows e → Knows (on_doing u f e)
  work_kept u f e stands knows = record {
    keeps = λ r x. subst (λ (z : Root). IsOrdered T x (keeping_of x z)) (sym (back r)) (knows.keeps r x);
    said = λ r s i. subst (λ (z : Root). IsSpent c.tree s.path ⊎ IsRecorded (kept_of s.x z)) (sym (back r))
        (knows.said r s (subst (λ (z : Root). list.In s z.said) (back r) i));
    joined = λ r j i.
        subst (λ (z : Root). IsJoin c T z j) (sym (back r)) (knows.joined r j (subst (λ (z : Root). list.In j z.joined) (back r) i));
    states = λ r x s is. knows.states r x s (sym (ap (λ (z : Root). at_number x z.states) (back r)) ∙ is);
    steps = λ w d s at now. subst (λ (z : Root). StepStands T s.goal s.x (top_of s.path) z s.at) (sym (back (root_of s.path)))
        (one w d s now (on_cases u f e w d at));
    records = λ p h x b i g there from is own. subst (λ (z : Root). binding_number b ≤ height (keeping_of x z))
        (sym (back (root_of h.path))) (knows.records p h x b i g there from is (sym (ap (is_own (top_of h.path)) (on_tree u f e)) ∙ own));
  }
    where
      back : (r : Uid) → root_at r (on_doing u f e) ≡ root_at r e
      back r = ap (λ rs. unwrap_or (at_number r.num rs) no_root) (on_roots u f e)

      one : (w : Uid) (d : Doing) (s : Steps) → d.now ≡ Calling s → ((w ≡ u) × (p : Doing) × (doing_of w e ≡ Some p) × (f p ≡ d))
          ⊎ ((w ≢ u) × (doing_of w e ≡ Some d)) → StepStands T s.goal s.x (top_of s.path) (root_at (root_of s.path) e) s.at
      one w d s now (inl same) = stands same.1 s (ap (λ v. doing_of v e) (sym same.0) ∙ same.2) (ap (λ (z : Doing). z.now) same.3 ∙ now)
      one w d s now (inr other) = knows.steps w d s other.1 now

  -- another tree of the same coordinator
  pub tree_kept : (e : Coord) (v : Tree) → ((w : Uid) → is_own w v ≡ is_own w e.tree) → Knows e → Knows (record e { tree = v })
  tree_kept e v own knows = record {
    keeps = knows.keeps;
    said = knows.said;
    joined = knows.joined;
    states = knows.states;
    steps = λ u d s at now. knows.steps u d s ((λ i. cond (sym (own u) i) (at_place u.num e.doings) None) ∙ at) now;
    records = λ p h x b i g there from is mine. knows.records p h x b i g there from is (sym (own (top_of h.path)) ∙ mine);
  }

  -- ---- requests that go out, and what a commit leaves

  pub asks_kept : (p : Path) (req : ℕ) (a : ℕ × Ask) (e : Coord) → Knows e → Knows (asks_node p req a e).part
  asks_kept p req a e knows = root_kept (root_of p) (with_went w) e
      (stays_goes (root_of p) e (with_went w (root_at (root_of p) e)) knows (same_stays (root_of p) e (with_went w (root_at (root_of p) e))
      knows (went_keeping w (root_at (root_of p) e), went.0, went_said w (root_at (root_of p) e), went.1, went.2))) knows
    where
      w : Went
      w = record { path = uids_of p; node = a.0; invoke = is_invoke_ask a.1 }

      went : (let r = root_at (root_of p) e in let q = with_went (record { path = uids_of p; node = a.0; invoke = is_invoke_ask a.1 }) r in
          (q.grants ≡ r.grants) × (q.joined ≡ r.joined) × (q.states ≡ r.states))
      went = by (list_any (same_went (record { path = uids_of p; node = a.0; invoke = is_invoke_ask a.1 })) (root_at (root_of p) e).went)
        where
          by : (b : Bool) → (let r = root_at (root_of p) e in
              let q = cond b r (record r { went = r.went ++ record { path = uids_of p; node = a.0; invoke = is_invoke_ask a.1 } ∷ [] }) in
              (q.grants ≡ r.grants) × (q.joined ≡ r.joined) × (q.states ≡ r.states))
          by true = (refl, refl, refl)
          by false = (refl, refl, refl)

  decides_kept : (p : Plan) (e : Coord) → Knows e → Knows (on_root (root_of p.path) (root_after p) e)
  decides_kept p e knows = root_kept (root_of p.path) (root_after p) e
      (stays_goes (root_of p.path) e (root_after p (root_at (root_of p.path) e)) knows stays) knows
    where
      none_each : (x : ℕ) (m : List (ℕ × Keeping)) → at_number x m ≡ None → at_number x (each (keeping_after p) m) ≡ None
      none_each x [] at = refl
      none_each x (z ∷ zs) at = one (is_eq (nat_cmp x z.0)) at (none_each x zs)
        where
          one : (b : Bool) → cond b (Some z.1) (at_number x zs) ≡ None → (at_number x zs ≡ None → at_number x (each (keeping_after p) zs)
              ≡ None) → cond b (Some (keeping_after p z.0 z.1)) (at_number x (each (keeping_after p) zs)) ≡ None
          one true h ih = none_not (sym h)
          one false h ih = ih h

      after_is : (x : ℕ) →
          keeping_of x (root_after p (root_at (root_of p.path) e)) ≡ keeping_after p x (keeping_of x (root_at (root_of p.path) e))
      after_is x = by (at_number x (root_at (root_of p.path) e).keeping) refl
        where
          by : (o : Option Keeping) → at_number x (root_at (root_of p.path) e).keeping ≡ o →
              keeping_of x (root_after p (root_at (root_of p.path) e)) ≡ keeping_after p x (keeping_of x (root_at (root_of p.path) e))
          by None none = ap (λ o. unwrap_or o no_keeping) (none_each x (root_at (root_of p.path) e).keeping none)
              ∙ ap (λ o. keeping_after p x (unwrap_or o no_keeping)) (sym none)
          by (Some k) found = ap (λ o. unwrap_or o no_keeping) (each_at (keeping_after p) x (root_at (root_of p.path) e).keeping k found)
              ∙ ap (λ o. keeping_after p x (unwrap_or o no_keeping)) (sym found)

      kept_stays : (x : ℕ) (k : Keeping) → StaysKept k.kept (keeping_after p x k).kept
      kept_stays x k z is =
          subst (λ o. (y : Known) × ((keeping_after p x (record k { kept = o })).kept ≡ Some y) × (binding_number y.binding
          ≡ binding_number z.binding) × (z.recorded ≡ true → y.recorded ≡ true)) (sym is) (record z { stores = _ }, refl, refl, λ q. q)

      ordered_after : (x : ℕ) (k : Keeping) → IsOrdered T x k → IsOrdered T x (keeping_after p x k)
      ordered_after x k o = record { avoid = o.avoid; kept = λ z is. by k.kept refl z is }
        where
          by : (q : Option Known) → k.kept ≡ q → (z : Known) → (keeping_after p x (record k { kept = q })).kept ≡ Some z →
              IsKept T x k.avoid z
          by None none z is = none_not is
          by (Some y) at z is = let w = o.kept y at in let e = some_is is in record {
            made = subst (λ (v : Known). T.made (binding_number v.binding) ≡ true) e w.made;
            above = subst (λ (v : Known). binding_number k.avoid < binding_number v.binding) e w.above;
            past = subst (λ (v : Known). v.recorded ≡ true → T.past x (binding_number v.binding) ≡ true) e w.past;
          }

      at_most : (a b : ℕ) → a ≡ b → a ≤ b
      at_most a b is = omega (arith, is)

      height_after : (x : ℕ) (k : Keeping) → height k ≤ height (keeping_after p x k)
      height_after x k = by k.kept refl
        where
          by : (q : Option Known) → k.kept ≡ q → height k ≤ height (keeping_after p x k)
          by None none = at_most
              _ _ (ap (λ o. height (record k { kept = o })) none ∙ sym (ap (λ o. height (keeping_after p x (record k { kept = o }))) none))
          by (Some y) at = at_most
              _ _ (ap (λ o. height (record k { kept = o })) at ∙ sym (ap (λ o. height (keeping_after p x (record k { kept = o }))) at))

      states_so : (ss : List ObjectState) (m : List (ℕ × ObjectState)) → ((x : ℕ) (s : ObjectState) → at_number x m ≡ Some s →
          s.uid.num ≡ x) → (x : ℕ) (s : ObjectState) → at_number x (states_after ss m) ≡ Some s → s.uid.num ≡ x
      states_so [] m all x s is = all x s is
      states_so (t ∷ ts) m all x s is = states_so ts (put_number t.uid.num t m) (λ y z at. ⊎_elim
          (λ same. ap (λ (v : ObjectState). v.uid.num)
          (sym (some_is (sym (put_number_same t.uid.num t m) ∙ ap (λ j. at_number j (put_number t.uid.num t m)) same ∙ at))) ∙ same)
          (λ apart. all y z (sym (put_number_other t.uid.num y t m apart.0) ∙ at)) (one_or_two t.uid.num y)) x s is

      stays : RootStays (root_at (root_of p.path) e) (root_after p (root_at (root_of p.path) e))
      stays = record {
        keeping = λ x. subst (λ (l : Keeping). (let k = keeping_of x (root_at (root_of p.path) e) in
            StaysKept k.kept l.kept × (binding_number l.avoid ≡ binding_number k.avoid))) (sym (after_is x))
            (kept_stays x (keeping_of x (root_at (root_of p.path) e)), refl);
        ordered = λ x. subst (IsOrdered T x) (sym (after_is x))
            (ordered_after x (keeping_of x (root_at (root_of p.path) e)) (knows.keeps (root_of p.path) x));
        heights = λ x. subst (λ (l : Keeping). height (keeping_of x (root_at (root_of p.path) e)) ≤ height l) (sym (after_is x))
            (height_after x (keeping_of x (root_at (root_of p.path) e)));
        grants = λ g i. (g, i, refl, refl, omega arith);
        said = refl;
        joined = refl;
        states = states_so p.changed (root_at (root_of p.path) e).states (λ x s is. knows.states (root_of p.path) x s is);
      }

  -- ---- the tree goes on, and what is known of roots stays

  pub record Goes (e : Coord) : Type 0 where
    pub stays : (w : Uid) (b : Branch) → branch_of w c.tree ≡ Some b → (q : Branch) × (branch_of w e.tree ≡ Some q) × (q.path ≡ b.path)
    pub own : (w : Uid) → is_own w e.tree ≡ is_own w c.tree
    pub knows : Knows e

  pub goes_with : (e f : Coord) → f.tree ≡ e.tree → Knows f → Goes e → Goes f
  goes_with e f same knows g = record {
    stays = λ w b is. let q = g.stays w b is in (q.0, ap (branch_of w) same ∙ q.1, q.2);
    own = λ w. ap (is_own w) same ∙ g.own w;
    knows = knows;
  }

  pub goes_same : (e : Coord) (v : Tree) → IsSameTree e.tree v → Goes e → Goes (record e { tree = v })
  goes_same e v same g = record {
    stays = λ w b is. let q = g.stays w b is in let f = same.forth w q.0 q.1 in (f.0, f.1, sym f.2 ∙ q.2);
    own = λ w. same.own w ∙ g.own w;
    knows = tree_kept e v same.own g.knows;
  }

  end_goes : (u : Uid) (how : End) (e : Coord) → Goes e → Goes (record e { tree = ended_at u how e.tree })
  end_goes u how e g = record {
    stays = λ w b is. let q = g.stays w b is in let f = still w q.0 q.1 (branch_of u e.tree) refl in (f.0, f.1, f.2 ∙ q.2);
    own = λ w. (end_tree_on u how e).own w ∙ g.own w;
    knows = tree_kept e (ended_at u how e.tree) (λ w. (end_tree_on u how e).own w) g.knows;
  }
    where
      still : (w : Uid) (b : Branch) → branch_of w e.tree ≡ Some b → (o : Option Branch) → branch_of u e.tree ≡ o →
          (q : Branch) × (branch_of w (ended_branch u how e.tree o) ≡ Some q) × (q.path ≡ b.path)
      still w b is None none = (b, is, refl)
      still w b is (Some a) found = ⊎_elim
          (λ same. (
            ended_b u how e.tree a found,
            ap (λ z. branch_of z (after u how e.tree a found)) same ∙ at_u u how e.tree a found,
            ap (λ (z : Branch). z.path) (some_is (sym found ∙ ap (λ z. branch_of z e.tree) (sym same) ∙ is)),
          ))
          (λ other. (b, at_others u how e.tree a found w other ∙ is, refl)) (uid_cases w u)

  pub work_goes : (u : Uid) (f : Doing → Doing) (e : Coord) → ((d : Doing) (s : Steps) → doing_of u e ≡ Some d → (f d).now ≡ Calling s →
      StepStands T s.goal s.x (top_of s.path) (root_at (root_of s.path) e) s.at) → Goes e → Goes (on_doing u f e)
  work_goes u f e stands g = goes_with e (on_doing u f e) (on_tree u f e) (work_kept u f e stands g.knows) g

  pub idle_goes : (u : Uid) (e : Coord) → Goes e → Goes (on_doing u (λ (d : Doing). record d { now = Idle }) e)
  idle_goes u e g = work_goes u (λ (d : Doing). record d { now = Idle }) e (λ d s found now. absurd (not_idle now)) g

  pub asks_goes : (p : Path) (req : ℕ) (a : ℕ × Ask) (e : Coord) → Goes e → Goes (asks_node p req a e).part
  asks_goes p req a e g = goes_with e (asks_node p req a e).part refl (asks_kept p req a e g.knows) g

  pub pieces : Goes c → Pieces c Goes
  pieces g = record {
    start = g;
    end_tree = λ u how e q. end_goes u how e q;
    idle = λ u e q. idle_goes u e q;
    took = λ u ns e q. work_goes u (λ (d : Doing). record d { took = ns }) e (λ d s found now. q.knows.steps u d s found now) q;
    commits = λ u m e planned q.
        work_goes u (λ (d : Doing). record d { req = (plan_of m).req; now = Committing m }) e (λ d s found now. absurd (not_calling now)) q;
    asks = λ p req a e rooted q. asks_goes p req a e q;
    decides = λ p e rooted q. goes_with e (on_root (root_of p.path) (root_after p) e) refl (decides_kept p e q.knows) q;
    telling = λ i e q. record {
      stays = q.stays;
      own = q.own;
      knows = record {
        keeps = q.knows.keeps;
        said = q.knows.said;
        joined = q.knows.joined;
        states = q.knows.states;
        steps = q.knows.steps;
        records = q.knows.records;
      };
    };
  }

  -- the tree has one object more of an action
  pub uses_goes : (p : Path) (x : ℕ) (e : Coord) → Goes e → Goes (record e { tree = uses_object p x e.tree })
  uses_goes p x e g = goes_same e (uses_object p x e.tree) (uses_same p x e.tree) g

  pub root_goes : (root : Uid) (f : Root → Root) (e : Coord) → RootGoes e root (f (root_at root e)) → Goes e → Goes (on_root root f e)
  root_goes root f e goes g = goes_with e (on_root root f e) refl (root_kept root f e goes g.knows) g
