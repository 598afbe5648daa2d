-- What a coordinator's roots were granted stays in order as its work and its roots change, with its tree as it was.
use Rattle.arj_law_parts.proofs.Words
use Words.{◌≡◌, ◌≢◌, ◌⊎◌, ◌∙◌, ◌≤◌, ◌*◌, ◌+◌, ◌++◌, ℕ, Bool, true, false, cond, List, [], ◌∷◌, Option, Some, None, refl, sym, ap, subst}
use Words.{inl, inr, ⊎_elim, arith, unwrap_or, list_any, is_eq, nat_cmp, uid_cases, Answer, Ask, Binding, End, Path, Uid, last_uid, uids_of}
use Words.{actor, asks_node, doomed_by, goes_on, is_invoke_ask, root_heard, step_call, At, CallEnd, CallStep, Ended, Known, On, Steps}
use Words.{next_ask, next_node, Plan, plan_of, Calling, Committing, Coord, Doing, Grant, Idle, Keeping, Root, Said, Went, doing_of, is_call}
use Words.{kept_of, no_keeping, no_root, on_doing, on_root, root_at, same_said, same_went, with_went, kept_after, keeping_after, root_after}
use Words.{at_number, binding_number, each, put_number, Branch, Tree, at_place, branch_of, doomed_at, ended_at, ended_branch, ends_of}
use Words.{is_own, root_of, uses_object, put_same as put_number_same, put_other as put_number_other, one_or_two}
use Words.list
use Words.calls
use Rattle.arj_law_lock_view.proofs.Terms
use Terms.{on_cases, on_roots, IsSameTree, doomed_same, on_tree, uses_same, after, at_others, at_u, ended_b, each_at, end_tree_on, IsSpent}
use Terms.{heard_keeping, not_idle, step_is, went_keeping, not_calling, went_said, HasGrant, IsGranted, IsLow, KnowsGrantsBy, is_bind}
use Rattle.arj_law_lock_view.proofs.facts.{GrantAnswers.AreLow, GrantAnswers.WasKept, Pieces.Pieces}

some_is : {A : Type 0} {a b : A} → Some a ≡ Some b → a ≡ b
some_is {A} {a} {b} is = let k : ◌≡◌ {A = Option A} (Some a) (Some b) = is in cc

none_not : {A P : Type 0} {x : A} → None ≡ Some x → P
none_not {A} {P} {x} is = let no_way : ◌≡◌ {A = Option A} None (Some x) = is in absurd (cc no_way)

-- in an earlier root it is so in the later one
pub record GrantsOn (q r : Root) : Type 0 where
  pub grants : (g : Grant) → list.In g q.grants → (h : Grant) × list.In h r.grants × (h.x ≡ g.x) × (h.top ≡ g.top) × (h.least ≤ g.least)
  pub said : (s : Said) → list.In s q.said → list.In s r.said

module _ (c : Coord) where
  granted_on : (q r : Root) → GrantsOn q r → (x n m : ℕ) (w : Uid) → n ≡ m → IsGranted c q x n w → IsGranted c r x m w
  granted_on q r on x n m w same its = let f = on.grants its.grant its.there in record {
    branch = its.branch;
    found = its.found;
    grant = f.0;
    there = f.1;
    object = f.2 ∙ its.object;
    top = f.3 ∙ its.top;
    low = number f.0.least its.grant.least n m f.4 its.low same;
  }
    where
      number : (i j k l : ℕ) → i ≤ j → j * 4294967296 ≤ k → k ≡ l → i * 4294967296 ≤ l
      number i j k l a b e = omega (arith, a, b, e)

  pub grant_on : (q r : Root) → GrantsOn q r → (x n m : ℕ) (w : Uid) → n ≡ m → HasGrant c q x n w → HasGrant c r x m w
  grant_on q r on x n m w same (inl its) = inl (granted_on q r on x n m w same its)
  grant_on q r on x n m w same (inr its) = inr (record {
    said = its.said;
    there = on.said its.said its.there;
    object = its.object;
    retained = its.retained;
    granted = granted_on q r on x n m (last_uid (let s = its.said in s.path)) same its.granted;
  })

  abbrev Knows : Coord → Type 0
  Knows e = KnowsGrantsBy c e

  -- nothing stands on what the root keeps of the object, but calls at their Binds
  pub record IsLoose (e : Coord) (root : Uid) (x : ℕ) : Type 0 where
    pub spent : (s : Said) → list.In s (root_at root e).said → s.x ≡ x → IsSpent c.tree s.path
    pub alone : (w : Uid) (d : Doing) (s : Steps) → doing_of w e ≡ Some d → d.now ≡ Calling s → s.x ≡ x → is_call s.goal ≡ true →
        is_bind s.at ≡ false → (root_of s.path).num ≡ root.num → ⊥

  -- a root that goes on so
  pub record RootGoes (e : Coord) (root : Uid) (q : Root) : Type 0 where
    pub low : AreLow q.grants
    pub on : GrantsOn (root_at root e) q
    pub said : (s : Said) → list.In s q.said → list.In s (root_at root e).said
        ⊎ ((k : Known) → kept_of s.x q ≡ Some k → HasGrant c q s.x (binding_number k.binding) (last_uid s.path))
    pub kept : (x : ℕ) (k : Known) → kept_of x q ≡ Some k → WasKept (kept_of x (root_at root e)) k ⊎ IsLoose e root x

  pub root_grants : (root : Uid) (f : Root → Root) (e : Coord) → RootGoes e root (f (root_at root e)) → Knows e → Knows (on_root root f e)
  root_grants root f e goes knows = record { named = named; said = said; steps = steps }
    where
      q : Root
      q = f (root_at root e)

      as_root : (r : Uid) → root.num ≡ r.num → root_at r e ≡ root_at root e
      as_root r same = ap (λ n. unwrap_or (at_number n e.roots) no_root) (sym same)

      changed : (r : Uid) → root.num ≡ r.num → root_at r (on_root root f e) ≡ f (root_at root e)
      changed r same = ap (λ n. unwrap_or (at_number n (put_number root.num (f (root_at root e)) e.roots)) no_root) (sym same)
          ∙ ap (λ o. unwrap_or o no_root) (put_number_same root.num (f (root_at root e)) e.roots)

      left : (r : Uid) → is_eq (nat_cmp r.num root.num) ≡ false → root_at r (on_root root f e) ≡ root_at r e
      left r apart = ap (λ o. unwrap_or o no_root) (put_number_other root.num r.num (f (root_at root e)) e.roots apart)

      named : (r : Uid) (g : Grant) (b : Binding) → list.In g (root_at r (on_root root f e)).grants → g.named ≡ Some b → IsLow g.least b
      named r g b i is = ⊎_elim
          (λ same. goes.low g b (subst (λ (z : Root). list.In g z.grants) (changed r same) i) is)
          (λ apart. knows.named r g b (subst (λ (z : Root). list.In g z.grants) (left r apart.0) i) is) (one_or_two root.num r.num)

      its_said : (s : Said) (k : Known) → list.In s (f (root_at root e)).said → kept_of s.x (f (root_at root e)) ≡ Some k →
          IsSpent c.tree s.path ⊎ HasGrant c (f (root_at root e)) s.x (binding_number k.binding) (last_uid s.path)
      its_said s k i is = ⊎_elim old (λ new. inr (new k is)) (goes.said s i)
        where
          old : list.In s (root_at root e).said →
              IsSpent c.tree s.path ⊎ HasGrant c (f (root_at root e)) s.x (binding_number k.binding) (last_uid s.path)
          old j = ⊎_elim
              (λ was. ⊎_elim (λ spent. inl spent) (λ has. inr (grant_on (root_at root e) (f (root_at root e)) goes.on s.x (binding_number
              (let o = was.0 in o.binding)) (binding_number k.binding) (last_uid s.path) was.2 has)) (knows.said root s was.0 j was.1))
              (λ (l : IsLoose e root s.x). inl (l.spent s j refl)) (goes.kept s.x k is)

      said : (r : Uid) (s : Said) (k : Known) → list.In s (root_at r (on_root root f e)).said → kept_of s.x (root_at r (on_root root f e))
          ≡ Some k → IsSpent c.tree s.path ⊎ HasGrant c (root_at r (on_root root f e)) s.x (binding_number k.binding) (last_uid s.path)
      said r s k i is = ⊎_elim
          (λ same. subst (λ (z : Root). IsSpent c.tree s.path ⊎ HasGrant c z s.x (binding_number k.binding) (last_uid s.path))
          (sym (changed r same))
          (its_said s k (subst (λ (z : Root). list.In s z.said) (changed r same) i) (ap (kept_of s.x) (sym (changed r same)) ∙ is)))
          (λ apart. subst (λ (z : Root). IsSpent c.tree s.path ⊎ HasGrant c z s.x (binding_number k.binding) (last_uid s.path))
          (sym (left r apart.0)) (knows.said r s k (subst (λ (z : Root). list.In s z.said) (left r apart.0) i)
          (ap (kept_of s.x) (sym (left r apart.0)) ∙ is))) (one_or_two root.num r.num)

      steps : (u : Uid) (d : Doing) (s : Steps) (k : Known) → doing_of u e ≡ Some d → d.now ≡ Calling s → is_call s.goal ≡ true →
          is_bind s.at ≡ false → kept_of s.x (root_at (root_of s.path) (on_root root f e)) ≡ Some k →
          HasGrant c (root_at (root_of s.path) (on_root root f e)) s.x (binding_number k.binding) (actor s.path)
      steps u d s k found now call past is = ⊎_elim
          (λ same. subst (λ (z : Root). HasGrant c z s.x (binding_number k.binding) (actor s.path)) (sym (changed (root_of s.path) same))
          (its same (ap (kept_of s.x) (sym (changed (root_of s.path) same)) ∙ is)))
          (λ apart. subst (λ (z : Root). HasGrant c z s.x (binding_number k.binding) (actor s.path)) (sym (left (root_of s.path) apart.0))
          (knows.steps u d s k found now call past (ap (kept_of s.x) (sym (left (root_of s.path) apart.0)) ∙ is)))
          (one_or_two root.num (root_of s.path).num)
        where
          its : root.num ≡ (root_of s.path).num → kept_of s.x (f (root_at root e)) ≡ Some k →
              HasGrant c (f (root_at root e)) s.x (binding_number k.binding) (actor s.path)
          its same kept = ⊎_elim
              (λ was. grant_on (root_at root e) (f (root_at root e)) goes.on s.x (binding_number (let o = was.0 in o.binding))
              (binding_number k.binding) (actor s.path) was.2 (subst (λ (z : Root).
              HasGrant c z s.x (binding_number (let o = was.0 in o.binding)) (actor s.path)) (as_root (root_of s.path) same)
              (knows.steps u d s was.0 found now call past (ap (kept_of s.x) (as_root (root_of s.path) same) ∙ was.1))))
              (λ (l : IsLoose e root s.x). absurd (l.alone u d s found now refl call past (sym same))) (goes.kept s.x k kept)

  -- a root with the same grants, calls and bindings
  pub same_grants : (root : Uid) (f : Root → Root) (e : Coord) → (f (root_at root e)).grants ≡ (root_at root e).grants →
      (f (root_at root e)).said ≡ (root_at root e).said → ((x : ℕ) (k : Known) → kept_of x (f (root_at root e)) ≡ Some k →
      WasKept (kept_of x (root_at root e)) k) → Knows e → Knows (on_root root f e)
  same_grants root f e grants says keeps knows = root_grants root f e (record {
    low = λ g b i is. knows.named root g b (subst (λ gs. list.In g gs) grants i) is;
    on = record {
      grants = λ g i. (g, subst (λ gs. list.In g gs) (sym grants) i, refl, refl, omega arith);
      said = λ s i. subst (λ ss. list.In s ss) (sym says) i;
    };
    said = λ s i. inl (subst (λ ss. list.In s ss) says i);
    kept = λ x k is. inl (keeps x k is);
  }) knows

  -- the work of one action
  pub work_grants : (u : Uid) (f : Doing → Doing) (e : Coord) → ((d : Doing) (s : Steps) (k : Known) → doing_of u e ≡ Some d →
      (f d).now ≡ Calling s → is_call s.goal ≡ true → is_bind s.at ≡ false → kept_of s.x (root_at (root_of s.path) e) ≡ Some k →
      HasGrant c (root_at (root_of s.path) e) s.x (binding_number k.binding) (actor s.path)) → Knows e → Knows (on_doing u f e)
  work_grants u f e stands knows = record {
    named = λ r g b i is. knows.named r g b (subst (λ (z : Root). list.In g z.grants) (back r) i) is;
    said = λ r s k i is. subst (λ (z : Root). IsSpent c.tree s.path ⊎ HasGrant c z s.x (binding_number k.binding) (last_uid s.path))
        (sym (back r)) (knows.said r s k (subst (λ (z : Root). list.In s z.said) (back r) i) (ap (kept_of s.x) (sym (back r)) ∙ is));
    steps = λ w d s k at now call past is. subst (λ (z : Root). HasGrant c z s.x (binding_number k.binding) (actor s.path)) (sym
        (back (root_of s.path))) (one w d s k now call past (ap (kept_of s.x) (sym (back (root_of s.path))) ∙ is) (on_cases u f e w d at));
  }
    where
      back : (r : Uid) → root_at r (on_doing u f e) ≡ root_at r e
      back r = ap (λ rs. unwrap_or (at_number r.num rs) no_root) (on_roots u f e)

      one : (w : Uid) (d : Doing) (s : Steps) (k : Known) → d.now ≡ Calling s → is_call s.goal ≡ true → is_bind s.at ≡ false →
          kept_of s.x (root_at (root_of s.path) e) ≡ Some k → ((w ≡ u) × (p : Doing) × (doing_of w e ≡ Some p) × (f p ≡ d))
          ⊎ ((w ≢ u) × (doing_of w e ≡ Some d)) → HasGrant c (root_at (root_of s.path) e) s.x (binding_number k.binding) (actor s.path)
      one w d s k now call past is (inl same) =
          stands same.1 s k (ap (λ v. doing_of v e) (sym same.0) ∙ same.2) (ap (λ (z : Doing). z.now) same.3 ∙ now) call past is
      one w d s k now call past is (inr other) = knows.steps w d s k other.1 now call past is

  -- another tree of the same coordinator
  pub tree_grants : (e : Coord) (v : Tree) → ((w : Uid) → is_own w v ≡ is_own w e.tree) → Knows e → Knows (record e { tree = v })
  tree_grants e v own knows = record {
    named = knows.named;
    said = knows.said;
    steps = λ u d s k at now call past is.
        knows.steps u d s k ((λ i. cond (sym (own u) i) (at_place u.num e.doings) None) ∙ at) now call past is;
  }

  -- ---- requests that go out

  pub asks_grants : (p : Path) (req : ℕ) (a : ℕ × Ask) (e : Coord) → Knows e → Knows (asks_node p req a e).part
  asks_grants p req a e knows =
      same_grants (root_of p) (with_went w) e (went_grants (root_at (root_of p) e)) (went_said w (root_at (root_of p) e))
      (λ x k is. (k, ap (λ m. (unwrap_or (at_number x m) no_keeping).kept) (sym (went_keeping w (root_at (root_of p) e))) ∙ is, refl)) knows
    where
      w : Went
      w = record { path = uids_of p; node = a.0; invoke = is_invoke_ask a.1 }

      went_grants : (r : Root) → (with_went w r).grants ≡ r.grants
      went_grants r = by (list_any (same_went w) r.went)
        where
          by : (b : Bool) → (cond b r (record r { went = r.went ++ w ∷ [] })).grants ≡ r.grants
          by true = refl
          by false = refl

  -- what a commit keeps of an object
  decides_grants : (p : Plan) (e : Coord) → Knows e → Knows (on_root (root_of p.path) (root_after p) e)
  decides_grants p e knows =
      same_grants (root_of p.path) (root_after p) e refl refl (λ x k is. keeps x k (root_at (root_of p.path) e) is) knows
    where
      keeps : (x : ℕ) (k : Known) (r : Root) → kept_of x (root_after p r) ≡ Some k → WasKept (kept_of x r) k
      keeps x k r is = by (at_number x r.keeping) refl
        where
          was : (o : Option Known) → kept_after p x o ≡ Some k → WasKept o k
          was None e2 = none_not e2
          was (Some y) e2 = (y, refl, ap (λ (z : Known). binding_number z.binding) (some_is e2))

          by : (o : Option Keeping) → at_number x r.keeping ≡ o → WasKept (kept_of x r) k
          by None none = none_not (ap (λ q. (unwrap_or q no_keeping).kept) (sym (none_each r.keeping none)) ∙ is)
            where
              none_each : (m : List (ℕ × Keeping)) → at_number x m ≡ None → at_number x (each (keeping_after p) m) ≡ None
              none_each [] at = refl
              none_each (z ∷ zs) at = one (is_eq (nat_cmp x z.0)) at (none_each zs)
                where
                  one : (b : Bool) → cond b (Some z.1) (at_number x zs) ≡ None → (at_number x zs ≡ None → at_number x (each (keeping_after
                      p) zs) ≡ None) → cond b (Some (keeping_after p z.0 z.1)) (at_number x (each (keeping_after p) zs)) ≡ None
                  one true h ih = none_not (sym h)
                  one false h ih = ih h
          by (Some y) found = let f = was y.kept (ap (λ o. (unwrap_or o no_keeping).kept)
              (sym (each_at (keeping_after p) x r.keeping y found)) ∙ is) in (f.0, ap (λ o. (unwrap_or o no_keeping).kept) found ∙ f.1, f.2)

  -- ---- the tree goes on, and what is granted stays

  pub record Goes (e : Coord) : Type 0 where
    pub stays : (w : Uid) (b : Branch) → branch_of w c.tree ≡ Some b → (q : Branch) × (branch_of w e.tree ≡ Some q) × (q.path ≡ b.path)
    pub knows : Knows e

  goes_with : (e f : Coord) → f.tree ≡ e.tree → Knows f → Goes e → Goes f
  goes_with e f same knows g = record { stays = λ w b is. let q = g.stays w b is in (q.0, ap (branch_of w) same ∙ q.1, q.2); knows = knows }

  goes_same : (e : Coord) (v : Tree) → IsSameTree e.tree v → Goes e → Goes (record e { tree = v })
  goes_same e v same g = record {
    stays = λ w b is. let q = g.stays w b is in let f = same.forth w q.0 q.1 in (f.0, f.1, sym f.2 ∙ q.2);
    knows = tree_grants e v same.own g.knows;
  }

  end_goes : (u : Uid) (how : End) (e : Coord) → Goes e → Goes (record e { tree = ended_at u how e.tree })
  end_goes u how e g = record {
    stays = λ w b is. let q = g.stays w b is in let f = still w q.0 q.1 (branch_of u e.tree) refl in (f.0, f.1, f.2 ∙ q.2);
    knows = tree_grants e (ended_at u how e.tree) (λ w. (end_tree_on u how e).own w) g.knows;
  }
    where
      still : (w : Uid) (b : Branch) → branch_of w e.tree ≡ Some b → (o : Option Branch) → branch_of u e.tree ≡ o →
          (q : Branch) × (branch_of w (ended_branch u how e.tree o) ≡ Some q) × (q.path ≡ b.path)
      still w b is None none = (b, is, refl)
      still w b is (Some a) found = ⊎_elim
          (λ same. (
            ended_b u how e.tree a found,
            ap (λ z. branch_of z (after u how e.tree a found)) same ∙ at_u u how e.tree a found,
            ap (λ (z : Branch). z.path) (some_is (sym found ∙ ap (λ z. branch_of z e.tree) (sym same) ∙ is)),
          ))
          (λ other. (b, at_others u how e.tree a found w other ∙ is, refl)) (uid_cases w u)

  work_goes : (u : Uid) (f : Doing → Doing) (e : Coord) → ((d : Doing) (s : Steps) (k : Known) → doing_of u e ≡ Some d →
      (f d).now ≡ Calling s → is_call s.goal ≡ true → is_bind s.at ≡ false → kept_of s.x (root_at (root_of s.path) e) ≡ Some k →
      HasGrant c (root_at (root_of s.path) e) s.x (binding_number k.binding) (actor s.path)) → Goes e → Goes (on_doing u f e)
  work_goes u f e stands g = goes_with e (on_doing u f e) (on_tree u f e) (work_grants u f e stands g.knows) g

  idle_goes : (u : Uid) (e : Coord) → Goes e → Goes (on_doing u (λ (d : Doing). record d { now = Idle }) e)
  idle_goes u e g = work_goes u (λ (d : Doing). record d { now = Idle }) e (λ d s k found now. absurd (not_idle now)) g

  asks_goes : (p : Path) (req : ℕ) (a : ℕ × Ask) (e : Coord) → Goes e → Goes (asks_node p req a e).part
  asks_goes p req a e g = goes_with e (asks_node p req a e).part refl (asks_grants p req a e g.knows) g

  pub pieces : Goes c → Pieces c Goes
  pieces g = record {
    start = g;
    end_tree = λ u how e q. end_goes u how e q;
    idle = λ u e q. idle_goes u e q;
    took = λ u ns e q. work_goes u (λ (d : Doing). record d { took = ns }) e
        (λ d s k found now call past is. q.knows.steps u d s k found now call past is) q;
    commits = λ u m e planned q. work_goes u (λ (d : Doing). record d { req = (plan_of m).req; now = Committing m }) e
        (λ d s k found now. absurd (not_calling now)) q;
    asks = λ p req a e rooted q. asks_goes p req a e q;
    decides = λ p e rooted q. goes_with e (on_root (root_of p.path) (root_after p) e) refl (decides_grants p e q.knows) q;
    telling = λ i e q. record { stays = q.stays; knows = record { named = q.knows.named; said = q.knows.said; steps = q.knows.steps } };
  }

  -- ---- calls

  -- an action goes on with a request
  pub steps_on : (s : Steps) (e : Coord) →
      (is_call s.goal ≡ true → is_bind s.at ≡ false → (k : Known) → kept_of s.x (root_at (root_of s.path) e) ≡ Some k →
      HasGrant c (root_at (root_of s.path) e) s.x (binding_number k.binding) (actor s.path)) → Goes e → Goes (goes_on s e).part
  steps_on s e stands g =
      let f = on_doing (actor s.path) (λ (d : Doing). record d { req = s.req; now = Calling s }) e in
      asks_goes s.path s.req (next_node s, next_ask (ends_of (root_of s.path) f.tree) s) f
      (work_goes (actor s.path) (λ (d : Doing). record d { req = s.req; now = Calling s }) e
      (λ d z k found now call past is. let same : s ≡ z = step_is now in
      subst (λ (y : Steps). is_call y.goal ≡ true → is_bind y.at ≡ false → (q : Known) → kept_of y.x (root_at (root_of y.path) e)
      ≡ Some q → HasGrant c (root_at (root_of y.path) e) y.x (binding_number q.binding) (actor y.path)) same stands call past k is) g)

  -- what is answered more
  heard_new : (s : Steps) (h : CallEnd) (r : Root) (z : Said) → list.In z (root_heard s h r).said →
      list.In z r.said ⊎ ((record { path = uids_of s.path; x = s.x } ≡ z) × ((a : Answer) × (h ≡ calls.Answered a)))
  heard_new s (calls.Answered a) r z i = by (list_any (same_said (record { path = uids_of s.path; x = s.x })) r.said) i
    where
      in_either : (b : Said) (xs : List Said) → list.In z (xs ++ b ∷ []) → list.In z xs ⊎ (b ≡ z)
      in_either b [] (inl same) = inr same
      in_either b [] (inr j) = absurd j
      in_either b (y ∷ ys) (inl same) = inl (inl same)
      in_either b (y ∷ ys) (inr j) = ⊎_elim (λ old. inl (inr old)) (λ new. inr new) (in_either b ys j)

      by : (b : Bool) → list.In z (cond b r (record r { said = r.said ++ record { path = uids_of s.path; x = s.x } ∷ [] })).said →
          list.In z r.said ⊎ ((record { path = uids_of s.path; x = s.x } ≡ z) × ((n : Answer) × (calls.Answered a ≡ calls.Answered n)))
      by true j = inl j
      by false j = ⊎_elim (λ old. inl old) (λ is. inr (is, (a, refl))) (in_either (record { path = uids_of s.path; x = s.x }) r.said j)
  heard_new s (calls.Included st) r z i = inl i
  heard_new s (calls.Conflict h m n) r z i = inl i
  heard_new s (calls.Changed n w) r z i = inl i
  heard_new s (calls.Lost n b) r z i = inl i

  heard_more : (s : Steps) (h : CallEnd) (r : Root) (z : Said) → list.In z r.said → list.In z (root_heard s h r).said
  heard_more s (calls.Answered a) r z i = by (list_any (same_said (record { path = uids_of s.path; x = s.x })) r.said)
    where
      front : (b : Said) (xs : List Said) → list.In z xs → list.In z (xs ++ b ∷ [])
      front b [] j = absurd j
      front b (y ∷ ys) (inl same) = inl same
      front b (y ∷ ys) (inr j) = inr (front b ys j)

      by : (b : Bool) → list.In z (cond b r (record r { said = r.said ++ record { path = uids_of s.path; x = s.x } ∷ [] })).said
      by true = i
      by false = front (record { path = uids_of s.path; x = s.x }) r.said i
  heard_more s (calls.Included st) r z i = i
  heard_more s (calls.Conflict h m n) r z i = i
  heard_more s (calls.Changed n w) r z i = i
  heard_more s (calls.Lost n b) r z i = i

  heard_grants : (s : Steps) (h : CallEnd) (r : Root) → (root_heard s h r).grants ≡ r.grants
  heard_grants s (calls.Answered a) r = by (list_any (same_said (record { path = uids_of s.path; x = s.x })) r.said)
    where
      by : (b : Bool) → (cond b r (record r { said = r.said ++ record { path = uids_of s.path; x = s.x } ∷ [] })).grants ≡ r.grants
      by true = refl
      by false = refl
  heard_grants s (calls.Included st) r = refl
  heard_grants s (calls.Conflict h m n) r = refl
  heard_grants s (calls.Changed n w) r = refl
  heard_grants s (calls.Lost n b) r = refl

  -- a call or an include ends
  over_goes : (s : Steps) (h : CallEnd) (e : Coord) →
      ((a : Answer) → h ≡ calls.Answered a → (k : Known) → kept_of s.x (root_at (root_of s.path) e) ≡ Some k →
      HasGrant c (root_at (root_of s.path) e) s.x (binding_number k.binding) (actor s.path)) → Goes e → Goes (step_call s (Ended h) e).part
  over_goes s h e on g = doomed h (goes_with mid told refl (root_grants (root_of s.path) (root_heard s h) mid goes its.knows) its)
    where
      mid : Coord
      mid = on_doing (actor s.path) (λ (d : Doing). record d { now = Idle }) e

      its : Goes mid
      its = idle_goes (actor s.path) e g

      told : Coord
      told = on_root (root_of s.path) (root_heard s h) mid

      r : Root
      r = root_at (root_of s.path) mid

      same : root_at (root_of s.path) mid ≡ root_at (root_of s.path) e
      same = ap (λ rs. unwrap_or (at_number (root_of s.path).num rs) no_root)
          (on_roots (actor s.path) (λ (d : Doing). record d { now = Idle }) e)

      goes_more : GrantsOn (root_at (root_of s.path) mid) (root_heard s h (root_at (root_of s.path) mid))
      goes_more = record {
        grants = λ n i. (n, subst (λ gs. list.In n gs) (sym (heard_grants s h (root_at (root_of s.path) mid))) i, refl, refl, omega arith);
        said = λ z i. heard_more s h (root_at (root_of s.path) mid) z i;
      }

      kept_same : (x : ℕ) → kept_of x (root_heard s h (root_at (root_of s.path) mid)) ≡ kept_of x (root_at (root_of s.path) mid)
      kept_same x = ap (λ m. (unwrap_or (at_number x m) no_keeping).kept) (heard_keeping s h (root_at (root_of s.path) mid))

      new_said : (z : Said) → (record { path = uids_of s.path; x = s.x } ≡ z) × ((a : Answer) × (h ≡ calls.Answered a)) → (k : Known) →
          kept_of z.x (root_heard s h (root_at (root_of s.path) mid)) ≡ Some k →
          HasGrant c (root_heard s h (root_at (root_of s.path) mid)) z.x (binding_number k.binding) (last_uid z.path)
      new_said z new = subst (λ (y : Said). (k : Known) → kept_of y.x (root_heard s h (root_at (root_of s.path) mid)) ≡ Some k →
          HasGrant c (root_heard s h (root_at (root_of s.path) mid)) y.x (binding_number k.binding) (last_uid y.path)) new.0
          (λ k is. grant_on (root_at (root_of s.path) mid) (root_heard s h (root_at (root_of s.path) mid)) goes_more s.x
          (binding_number k.binding) (binding_number k.binding) (actor s.path) refl
          (subst (λ (q : Root). HasGrant c q s.x (binding_number k.binding) (actor s.path)) (sym same)
          (on new.1.0 new.1.1 k (ap (kept_of s.x) (sym same) ∙ sym (kept_same s.x) ∙ is))))

      goes : RootGoes mid (root_of s.path) (root_heard s h (root_at (root_of s.path) mid))
      goes = record {
        low = λ n b i is.
            its.knows.named (root_of s.path) n b (subst (λ gs. list.In n gs) (heard_grants s h (root_at (root_of s.path) mid)) i) is;
        on = goes_more;
        said = λ z i. ⊎_elim (λ old. inl old) (λ new. inr (new_said z new)) (heard_new s h (root_at (root_of s.path) mid) z i);
        kept = λ x k is. inl (k, sym (kept_same x) ∙ is, refl);
      }

      doomed : (f : CallEnd) → Goes told → Goes (doomed_by (actor s.path) f told)
      doomed (calls.Answered a) q = q
      doomed (calls.Included st) q = q
      doomed (calls.Conflict o m n) q = q
      doomed (calls.Changed n w) q = q
      doomed (calls.Lost n false) q = q
      doomed (calls.Lost n true) q = goes_same told (doomed_at (actor s.path) told.tree) (doomed_same (actor s.path) told.tree) q

  pub step_goes : (s : Steps) (n : CallStep) (e : Coord) →
      ((at : At) → n ≡ On at → is_call s.goal ≡ true → is_bind at ≡ false → (k : Known) → kept_of s.x (root_at (root_of s.path) e)
      ≡ Some k → HasGrant c (root_at (root_of s.path) e) s.x (binding_number k.binding) (actor s.path))
      → ((a : Answer) → n ≡ Ended (calls.Answered a) → (k : Known) → kept_of s.x (root_at (root_of s.path) e) ≡ Some k →
      HasGrant c (root_at (root_of s.path) e) s.x (binding_number k.binding) (actor s.path)) → Goes e → Goes (step_call s n e).part
  step_goes s (On at) e on ends g = steps_on (record s { req = s.req + 1; at = at }) e (λ call past k is. on at refl call past k is) g
  step_goes s (Ended h) e on ends g = over_goes s h e (λ a is k kept. ends a (ap Ended is) k kept) g

  -- the tree has one object more of an action, or another root is there
  pub uses_goes : (p : Path) (x : ℕ) (e : Coord) → Goes e → Goes (record e { tree = uses_object p x e.tree })
  uses_goes p x e g = goes_same e (uses_object p x e.tree) (uses_same p x e.tree) g

  pub root_goes : (root : Uid) (f : Root → Root) (e : Coord) → RootGoes e root (f (root_at root e)) → Goes e → Goes (on_root root f e)
  root_goes root f e goes g = goes_with e (on_root root f e) refl (root_grants root f e goes g.knows) g
