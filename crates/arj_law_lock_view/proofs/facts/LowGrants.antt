-- The grant that a top's plan says of an object isn't above the binding that its unit keeps: some grant that counts isn't.
use Rattle.arj_law_parts.proofs.Words
use Words.{◌≡◌, ◌≢◌, ◌⊎◌, ◌∙◌, ◌≤◌, ◌*◌, ◌==◌, ◌&&◌, ◌||◌, ℕ, Bool, true, false, cond, filter, map, List, [], ◌∷◌, Option, Some, None, refl}
use Words.{sym, ap, subst, inl, inr, ⊎_elim, arith, Contains, list_any, and_parts, or_cases, uid_same, in_from, Kind, Uid, is_on, last_uid}
use Words.{uid_eq, uids_of, actor, top_of, Known, Used, Coord, Doing, Grant, Joined, Root, Said, counts, counts_grant, is_called}
use Words.{is_constituent_branch, is_kept_top, is_retained, kept_of, least_grant, objects_in, retained_in, root_at, second_uid, survives}
use Words.{top_uses, used_of, binding_number, Branch, branch_of, has_open_child, is_committed, is_merged, root_of, Post, is_constituent}
use Words.list
use Words.kind
use Rattle.arj_law_lock_view.proofs.Terms
use Terms.{AreBegun, Paths, IsSpent, IsThere, KnowsBinds, counted_said, plan_keeps, retained, surviving, Act, Root as Unit, Sub, is_action}
use Terms.{is_top, on, root, top, State, IsFreeToEnd, IsPlaced, IsSteady, Acts, IsReached, Codes, AreTopped, HasLowGrant, SeesWhole}
use Terms.{plan_now, HasGrant, IsGranted, KnowsGrants}
use Terms.binds
use Rattle.arj_law_lock_view.proofs.facts.Keeping.{found as its_found, its as its_actor, kept_seen, root_home}
use Rattle.arj_law_lock_view.proofs.view.{CoverSteps.plans_cover_units, PlanSteps.least_below, TreeSteps.top_kind}
use Rattle.arj_law_lock_view.specs.facts.Grants.{PlansGrantLow}
use Rattle.arj_law_lock.proofs.machine.Paths as machine

some_is : {A : Type 0} {a b : A} → Some a ≡ Some b → a ≡ b
some_is {A} {a} {b} is = let k : ◌≡◌ {A = Option A} (Some a) (Some b) = is in cc

equal : (n : ℕ) → (n == n) ≡ true
equal n = grind arith

either : (o p : Bool) → p ≡ true → (o || p) ≡ true
either true p is = refl
either false p is = is

any_in : {A : Type 0} (p : A → Bool) (x : A) (xs : List A) → list.In x xs → p x ≡ true → list_any p xs ≡ true
any_in p x [] i is = absurd i
any_in p x (y ∷ ys) (inl same) is = (λ j. (ap p same ∙ is) j || list_any p ys)
any_in p x (y ∷ ys) (inr i) is = either (p y) (list_any p ys) (any_in p x ys i is)

kept_in : {A : Type 0} (p : A → Bool) (x : A) (xs : List A) → list.In x xs → p x ≡ true → list.In x (filter p xs)
kept_in p x [] i is = absurd i
kept_in {A} p x (y ∷ ys) i is = by (p y) refl (kept_in p x ys) i
  where
    by : (b : Bool) → p y ≡ b → (list.In x ys → p x ≡ true → list.In x (filter p ys)) → (y ≡ x) ⊎ list.In x ys →
        list.In x (cond b (y ∷ filter p ys) (filter p ys))
    by true e ih (inl same) = inl same
    by true e ih (inr j) = inr (ih j is)
    by false e ih (inl same) = let no_way : true ≡ false = sym (ap p same ∙ is) ∙ e in absurd (cc no_way)
    by false e ih (inr j) = ih j is

pub map_in : {A B : Type 0} (f : A → B) (x : A) (xs : List A) → list.In x xs → list.In (f x) (map f xs)
map_in f x [] i = absurd i
map_in f x (y ∷ ys) (inl same) = inl (ap f same)
map_in f x (y ∷ ys) (inr i) = inr (map_in f x ys i)

module _ (act : Acts) (code : Codes) (paths : Paths) (x : ℕ) (sent : List Post) (node : ℕ) (c : Coord) (u : Uid) (b : Branch) (d : Doing)
    (S : State) (reached : IsReached S) (free : IsFreeToEnd act paths c u b d) (begun : AreBegun (let k = free.steady in k.actions))
    (topped : AreTopped act c) (unserial : b.kind ≢ kind.Serial) (unnested : b.kind ≢ kind.Nested) (childless : has_open_child u c.tree
    ≡ false) (knows : KnowsBinds sent node c) (grants : KnowsGrants c) (whole : SeesWhole act code x c S) where
  abbrev steady : IsSteady act paths c
  steady = free.steady

  abbrev rr : Root
  rr = root_at (root_of b.path) c

  its : actor b.path ≡ u
  its = its_actor act code paths x sent node c u b d S reached free knows whole

  found : branch_of (actor b.path) c.tree ≡ Some b
  found = its_found act code paths x sent node c u b d S reached free knows whole

  -- of an action's path one is the top
  one_top : (w : Uid) (q : Branch) → branch_of w c.tree ≡ Some q → (v : Uid) → is_top (act v) ≡ true → is_on (uids_of q.path) v ≡ true →
      top_of q.path ≡ v
  one_top w q at v tops on_it =
      let good = steady.good in
      let t = good.tree in
      let above : on (act w) (act v) ≡ true = steady.alike.above w v ∙ ap (λ us. is_on us v) (sym (t.lists.paths_are w q at)) ∙ on_it in
      let same : top (act w) ≡ act v = machine.top_of (act w) (act v) tops above in
      steady.alike.one (top_of q.path) v (sym (topped w q at (below (act w) (ap is_action same ∙ machine.top_action (act v) tops))) ∙ same)
    where
      below : (a : Act) → is_action (top a) ≡ true → is_action a ≡ true
      below (Unit n) holds = holds
      below (Sub a n) holds = refl

  -- the constituent in which a call is retained
  retains_it : (us : List Uid) → is_retained us c ≡ true → (v : Uid) × (is_kept_top v c ≡ true) × (survives v us c ≡ true)
  retains_it us is = by (second_uid us) is
    where
      by : (o : Option Uid) → retained_in us c o ≡ true → (v : Uid) × (is_kept_top v c ≡ true) × (survives v us c ≡ true)
      by None h = absurd (cc h)
      by (Some v) h = let p = and_parts (is_kept_top v c) (survives v us c) h in (v, p.0, p.1)

  kept_is_top : (v : Uid) → is_kept_top v c ≡ true → is_top (act v) ≡ true
  kept_is_top v is = by (branch_of v c.tree) refl (and_parts (is_constituent_branch (branch_of v c.tree)) (is_committed v c.tree) is).0
    where
      kinds : (k : Kind) → is_constituent k ≡ true → IsPlaced (act v) k → is_top (act v) ≡ true
      kinds kind.Constituent h placed = placed
      kinds kind.Top h placed = absurd (cc h)
      kinds kind.Serial h placed = absurd (cc h)
      kinds kind.Nested h placed = absurd (cc h)
      kinds kind.Independent h placed = absurd (cc h)

      by : (o : Option Branch) → branch_of v c.tree ≡ o → is_constituent_branch o ≡ true → is_top (act v) ≡ true
      by None none h = absurd (cc h)
      by (Some e) at h = kinds e.kind h (steady.placed v e at)

  -- a grant of a call that counts counts
  grant_counts : (s : Said) (n : ℕ) → list.In s rr.said → s.x ≡ x → counts (actor b.path) s.path c ≡ true →
      (g : IsGranted c rr x n (last_uid s.path)) → counts_grant (actor b.path) x rr c g.grant ≡ true
  grant_counts s n i same count g = λ j. (ap (λ m. m == x) g.object ∙ equal x) j
      && ⊎_elim own held (or_cases (survives (actor b.path) s.path c) (is_retained s.path c) count) j
    where
      z : binds.IsSaid c.tree (root_of b.path).num (root_at (root_of b.path) c) s
      z = knows.said (root_of b.path) s i

      branch_is : g.branch ≡ z.branch
      branch_is = some_is (sym g.found ∙ z.there)

      -- its top is the one on its path
      top_is : (v : Uid) → is_top (act v) ≡ true → is_on s.path v ≡ true → (let h = g.grant in h.top) ≡ v
      top_is v tops on_it = g.top ∙ ap (λ (q : Branch). top_of q.path) branch_is
          ∙ one_top (last_uid s.path) z.branch z.there v tops (ap (λ us. is_on us v) z.path ∙ on_it)

      own : survives (actor b.path) s.path c ≡ true → (uid_eq (let h = g.grant in
          h.top) (actor b.path) || (is_kept_top (let h = g.grant in h.top) c && top_uses (let h = g.grant in h.top) x rr c)) ≡ true
      own is =
          let on_it = (and_parts (is_on s.path (actor b.path)) (is_merged (actor b.path) s.path c.tree) is).0 in
          let tops : is_top (act (actor b.path)) ≡ true = ap (λ v. is_top (act v)) its
          ∙ top_kind (act u) b.kind unserial unnested (steady.placed u b free.there) in
          λ j. (ap (λ v. uid_eq v (actor b.path)) (top_is (actor b.path) tops on_it) ∙ uid_same (actor b.path)) j
          || (is_kept_top (let h = g.grant in h.top) c && top_uses (let h = g.grant in h.top) x rr c)

      held : is_retained s.path c ≡ true → (uid_eq (let h = g.grant in
          h.top) (actor b.path) || (is_kept_top (let h = g.grant in h.top) c && top_uses (let h = g.grant in h.top) x rr c)) ≡ true
      held is = of (retains_it s.path is)
        where
          of : (v : Uid) × (is_kept_top v c ≡ true) × (survives v s.path c ≡ true) → (uid_eq (let h = g.grant in
              h.top) (actor b.path) || (is_kept_top (let h = g.grant in h.top) c && top_uses (let h = g.grant in h.top) x rr c)) ≡ true
          of (v, kept, stays) =
              let on_it = (and_parts (is_on s.path v) (is_merged v s.path c.tree) stays).0 in
              let t : (let h = g.grant in h.top) ≡ v = top_is v (kept_is_top v kept) on_it in
              let uses : top_uses v x rr c ≡ true = (λ j. any_in (λ (y : Said). (y.x == x) && survives v y.path c) s rr.said i
              (λ l. (ap (λ m. m == x) same ∙ equal x) l && stays l) j
              || list_any (λ (y : Joined). (y.x == x) && survives v y.path c) rr.joined) in
              either (uid_eq (let h = g.grant in h.top) (actor b.path)) (is_kept_top (let h = g.grant in h.top) c && top_uses
              (let h = g.grant in h.top) x rr c) (ap (λ w. is_kept_top w c && top_uses w x rr c) t ∙ (λ j. kept j && uses j))

  least_low : (g : Grant) (n : ℕ) → list.In g rr.grants → counts_grant (actor b.path) x rr c g ≡ true → g.least * 4294967296 ≤ n →
      least_grant (actor b.path) x rr c * 4294967296 ≤ n
  least_low g n i count low = number (least_grant (actor b.path) x rr c) g.least n (least_below g.least
      (map (λ (h : Grant). h.least) (filter (counts_grant (actor b.path) x rr c) rr.grants)) (map_in (λ (h : Grant). h.least) g
      (filter (counts_grant (actor b.path) x rr c) rr.grants) (kept_in (counts_grant (actor b.path) x rr c) g rr.grants i count))) low
    where
      number : (i j k : ℕ) → i ≤ j → j * 4294967296 ≤ k → i * 4294967296 ≤ k
      number i j k a e = omega (arith, a, e)

  -- where a call counts, what is kept isn't below the plan's grant
  counted_low : (s : Said) (k : Known) → list.In s rr.said → s.x ≡ x → counts (actor b.path) s.path c ≡ true → kept_of x rr ≡ Some k →
      least_grant (actor b.path) x rr c * 4294967296 ≤ binding_number k.binding
  counted_low s k i same count kept = ⊎_elim spent has (subst (λ (m : ℕ). IsSpent c.tree s.path ⊎ HasGrant c rr m (binding_number k.binding)
      (last_uid s.path)) same (grants.said (root_of b.path) s k i (ap (λ (m : ℕ). kept_of m rr) same ∙ kept)))
    where
      spent : IsSpent c.tree s.path → least_grant (actor b.path) x rr c * 4294967296 ≤ binding_number k.binding
      spent w = absurd (⊎_elim
          (surviving steady.actions paths steady.whole sent node c steady.good knows b found free.unended s
          (knows.said (root_of b.path) s i) w.0 w.1 w.2)
          (retained steady.actions paths steady.whole sent node c steady.good knows b found free.unended s (knows.said (root_of b.path) s i)
          w.0 w.1 w.2)
          (or_cases (survives (actor b.path) s.path c) (is_retained s.path c) count))

      has : HasGrant c rr x (binding_number k.binding) (last_uid s.path) →
          least_grant (actor b.path) x rr c * 4294967296 ≤ binding_number k.binding
      has (inl g) = least_low g.grant (binding_number k.binding) g.there (grant_counts s (binding_number k.binding) i same count g) g.low
      has (inr r) = let g = r.granted in
          least_low g.grant (binding_number k.binding) g.there (grant_counts r.said (binding_number k.binding) r.there r.object (either
          (survives (actor b.path) (let y = r.said in y.path) c) (is_retained (let y = r.said in y.path) c) r.retained) r.granted) g.low

  low : HasLowGrant x (act u) (plan_now b c) S
  low q call there about i alive of = subst (λ (n : ℕ). n * 4294967296 ≤ S.kept (root (act u))) (sym (its_grant
      (list.in_map (used_of (actor b.path) rr c) q (objects_in (actor b.path) rr c) (in_from q (let p = plan_now b c in p.used) there))))
      (below (kept_of x rr) refl (plan_keeps steady.actions paths steady.whole sent node c steady.good knows b found free.unended x called))
    where
      its_grant : (y : ℕ) × list.In y (objects_in (actor b.path) rr c) × (used_of (actor b.path) rr c y ≡ q) →
          q.grant ≡ least_grant (actor b.path) x rr c
      its_grant (y, yi, is) = let same : y ≡ x = ap (λ (z : Used). z.x) is ∙ about in
          ap (λ (z : Used). z.grant) (sym is) ∙ ap (λ (n : ℕ). least_grant (actor b.path) n rr c) same

      called : is_called x (actor b.path) rr c ≡ true
      called = of_plan ((plans_cover_units act code paths x c u b d S free begun unserial unnested childless whole).0 call i alive of)
        where
          of_used : (p : Used) → p.x ≡ x → p.called ≡ true → (y : ℕ) × list.In y (objects_in (actor b.path) rr c)
              × (used_of (actor b.path) rr c y ≡ p) → is_called x (actor b.path) rr c ≡ true
          of_used p at on_it (y, yi, is) = let same : y ≡ x = ap (λ (z : Used). z.x) is ∙ at in
              ap (λ n. is_called n (actor b.path) rr c) (sym same) ∙ ap (λ (z : Used). z.called) is ∙ on_it

          of_plan : (p : Used) × Contains (let w = plan_now b c in w.used) p × (p.x ≡ x) × (p.called ≡ true) →
              is_called x (actor b.path) rr c ≡ true
          of_plan (p, pi, at, on_it) = of_used p at on_it
              (list.in_map (used_of (actor b.path) rr c) p (objects_in (actor b.path) rr c) (in_from p (let w = plan_now b c in w.used) pi))

      below : (o : Option Known) → kept_of x rr ≡ o → IsThere o → least_grant (actor b.path) x rr c * 4294967296 ≤ S.kept (root (act u))
      below None is none = absurd none
      below (Some k) is there_is =
          let f = counted_said x (λ (s : Said). counts (actor b.path) s.path c) rr.said called in
          let seen = kept_seen act code paths x sent node c u b d S reached free knows whole k is in
          subst (λ (n : ℕ). least_grant (actor b.path) x rr c * 4294967296 ≤ n) (sym (ap S.kept
          (root_home act code paths x sent node c u b d S reached free knows whole) ∙ seen.kept)) (counted_low f.0 k f.1 f.2 f.3 is)

pub plans_grant_low : PlansGrantLow
plans_grant_low act code paths x sent node c u b d S reached free begun topped unserial unnested childless knows grants whole =
    low act code paths x sent node c u b d S reached free begun topped unserial unnested childless knows grants whole
