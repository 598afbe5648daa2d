-- What a plan sends to a store is the machine's plan.
use Rattle.arj_law_parts.proofs.Words
use Words.{◌≡◌, ◌⊎◌, ℕ, ◌==◌, ◌||◌, List, [], ◌∷◌, ◌++◌, Bool, true, false, cond, Option, Some, None, refl, sym, ◌∙◌, ap, subst, inl, inr}
use Words.{⊎_elim, find, if◌then◌else◌, cons_option, nat_cmp, match_ordering, nat_cmp-IsAntisymmetric, Ordering, Less, Equal, Greater}
use Words.{or_left, or_right, or_cases, uid_is, Uid, ObjectState, object, uid_eq, Used, changed_of, states_for, state_by, stores_by}
use Words.{targets_of, uid_number, number_set, with_number}
use Words.commit
use Words.order
use Rattle.arj_law_disk_view.proofs.Terms
use Terms.{flat_map, filter_map, State, target, state_for, never_some, some_is, test_is, test_same, Among, IsOf, packed, IsPlanned, used_at}
use Terms.{plan_by, plan_at, loads, Uses, IsTidy}
use Terms.words
use Rattle.arj_law_disk_view.specs.view.Plans.{StatesArePlanned, TargetsAreAsked}

-- the two tests of a list are one
pub has_same : (n : ℕ) (ns : List ℕ) → words.has n ns ≡ order.has ns n
has_same n [] = refl
has_same n (m ∷ ms) = ap (λ b. (m == n) || b) (has_same n ms)

-- what is found is there, and passes
pub used_there : (x : ℕ) (us : List Used) (u : Used) → used_at x us ≡ Some u → Uses u us × (u.x ≡ x)
used_there x [] u is = absurd (cc is)
used_there x (v ∷ vs) u is = by (v.x == x) refl is (used_there x vs u)
  where
    by : (b : Bool) → (v.x == x) ≡ b → cond b (Some v) (used_at x vs) ≡ Some u → (used_at x vs ≡ Some u → Uses u vs × (u.x ≡ x)) →
        Uses u (v ∷ vs) × (u.x ≡ x)
    by true e h ih = let same : v ≡ u = cc h in (inl same, ap (λ (w : Used). w.x) (sym same) ∙ test_is v.x x e)
    by false e h ih = let r = ih h in (inr r.0, r.1)

changed_is : (x : ℕ) (p : commit.Plan) (c : ObjectState) → changed_of x p ≡ Some c → c.uid ≡ object x
changed_is x p c is = from p.changed is
  where
    from : (cs : List ObjectState) → find (λ (s : ObjectState). uid_eq s.uid (object x)) cs ≡ Some c → c.uid ≡ object x
    from [] h = absurd (cc h)
    from (d ∷ ds) h = by (uid_eq d.uid (object x)) refl h (from ds)
      where
        by : (b : Bool) → uid_eq d.uid (object x) ≡ b → cond b (Some d) (find (λ (s : ObjectState). uid_eq s.uid (object x)) ds) ≡ Some c →
            (find (λ (s : ObjectState). uid_eq s.uid (object x)) ds ≡ Some c → c.uid ≡ object x) → c.uid ≡ object x
        by true e h ih = let same : d ≡ c = cc h in ap (λ (s : ObjectState). s.uid) (sym same) ∙ uid_is d.uid (object x) e
        by false e h ih = ih h

-- what a filter leaves comes from the list, and what passes is left
left_from : (f : Used → Option ObjectState) (us : List Used) (st : ObjectState) → Among st (filter_map f us) →
    (u : Used) × Uses u us × (f u ≡ Some st)
left_from f [] st a = absurd a
left_from f (v ∷ vs) st a = by (f v) refl a (left_from f vs st)
  where
    by : (o : Option ObjectState) → f v ≡ o → Among st (cons_option o (filter_map f vs)) →
        (Among st (filter_map f vs) → (u : Used) × Uses u vs × (f u ≡ Some st)) → (u : Used) × Uses u (v ∷ vs) × (f u ≡ Some st)
    by None e a ih = let r = ih a in (r.0, inr r.1, r.2)
    by (Some t) e (inl same) ih = (v, inl refl, e ∙ ap Some same)
    by (Some t) e (inr more) ih = let r = ih more in (r.0, inr r.1, r.2)

passes_left : (f : Used → Option ObjectState) (us : List Used) (u : Used) (st : ObjectState) → Uses u us → f u ≡ Some st →
    Among st (filter_map f us)
passes_left f [] u st uses is = absurd uses
passes_left f (v ∷ vs) u st uses is = by (f v) refl uses (passes_left f vs u st)
  where
    by : (o : Option ObjectState) → f v ≡ o → (v ≡ u) ⊎ Uses u vs → (Uses u vs → f u ≡ Some st → Among st (filter_map f vs)) →
        Among st (cons_option o (filter_map f vs))
    by None e (inl same) ih = absurd (never_some (ap f same ∙ is) e)
    by None e (inr more) ih = ih more is
    by (Some t) e (inl same) ih = inl (some_is e (ap f same ∙ is))
    by (Some t) e (inr more) ih = inr (ih more is)

module _ (x s : ℕ) (p : commit.Plan) (tidy : IsTidy p) where
  -- the state of an object that is used so goes to the store exactly where the store is a target
  sends_one : (u : Used) → Uses u p.used → u.x ≡ x → (st : ObjectState) → state_by s u (changed_of u.x p) ≡ Some st →
      (st.uid ≡ object x) × (target (plan_at x p) s ≡ true) × (packed st ≡ state_for (plan_at x p))
  sends_one u uses is st sent = by (changed_of x p) refl (ap (λ k. state_by s u (changed_of k p)) (sym is) ∙ sent)
    where
      found : used_at x p.used ≡ Some u
      found = ap (λ k. used_at k p.used) (sym is) ∙ tidy.once u uses

      there : (o : Option ObjectState) → changed_of x p ≡ o → (target (plan_by (Some u) o) s ≡ true)
          × (packed st ≡ state_for (plan_by (Some u) o)) → (target (plan_at x p) s ≡ true) × (packed st ≡ state_for (plan_at x p))
      there o e r = subst (λ q. (target q s ≡ true) × (packed st ≡ state_for q)) (λ i. plan_by (sym found i) (sym e i)) r

      by : (o : Option ObjectState) → changed_of x p ≡ o → state_by s u o ≡ Some st →
          (st.uid ≡ object x) × (target (plan_at x p) s ≡ true) × (packed st ≡ state_for (plan_at x p))
      by None e h = one (order.has u.joins s) refl h
        where
          one : (b : Bool) → order.has u.joins s ≡ b → (if b then u.loaded else None) ≡ Some st →
              (st.uid ≡ object x) × (target (plan_at x p) s ≡ true) × (packed st ≡ state_for (plan_at x p))
          one false j h = absurd (cc h)
          one true j h =
              let r = there None e (has_same s u.joins ∙ j, sym (ap loads h)) in
              (tidy.of u st uses h ∙ ap object is, r.0, r.1)
      by (Some c) e h = one (order.has u.stores s) (order.has u.joins s) refl refl h
        where
          done : c ≡ st → (words.has s u.stores || words.has s u.joins) ≡ true →
              (st.uid ≡ object x) × (target (plan_at x p) s ≡ true) × (packed st ≡ state_for (plan_at x p))
          done same on =
              let r = there (Some c) e (on, ap packed (sym same)) in
              (ap (λ (q : ObjectState). q.uid) (sym same) ∙ changed_is x p c e, r.0, r.1)

          one : (a b : Bool) → order.has u.stores s ≡ a → order.has u.joins s ≡ b → (if a || b then Some c else None) ≡ Some st →
              (st.uid ≡ object x) × (target (plan_at x p) s ≡ true) × (packed st ≡ state_for (plan_at x p))
          one false false j k h = absurd (cc h)
          one true b j k h =
              done (let same : c ≡ st = cc h in same) (or_left (words.has s u.stores) (words.has s u.joins) (has_same s u.stores ∙ j))
          one false true j k h =
              done (let same : c ≡ st = cc h in same) (or_right (words.has s u.stores) (words.has s u.joins) (has_same s u.joins ∙ k))

  -- a target is sent a state of the object
  is_sent : target (plan_at x p) s ≡ true →
      (u : Used) × Uses u p.used × (u.x ≡ x) × ((st : ObjectState) × (state_by s u (changed_of u.x p) ≡ Some st))
  is_sent on = at (used_at x p.used) refl on
    where
      none_on : {A : Type 0} → false ≡ true → A
      none_on e = absurd (cc e)

      at : (o : Option Used) → used_at x p.used ≡ o → target (plan_by o (changed_of x p)) s ≡ true →
          (u : Used) × Uses u p.used × (u.x ≡ x) × ((st : ObjectState) × (state_by s u (changed_of u.x p) ≡ Some st))
      at None e on = none_on on
      at (Some u) e on = (u, r.0, r.1, (q.0, ap (λ k. state_by s u (changed_of k p)) r.1 ∙ q.1))
        where
          r : Uses u p.used × (u.x ≡ x)
          r = used_there x p.used u e

          state : (o : Option ObjectState) → target (plan_by (Some u) o) s ≡ true → (st : ObjectState) × (state_by s u o ≡ Some st)
          state None on = let j : order.has u.joins s ≡ true = sym (has_same s u.joins) ∙ on in let l = tidy.loaded u s r.0 j in
              (l.0, ap (λ b. if b then u.loaded else None) j ∙ l.1)
          state (Some c) on = (
            c,
            ap (λ b. if b then Some c else None) (ap (λ a. a || order.has u.joins s) (sym (has_same s u.stores))
                ∙ ap (λ b. words.has s u.stores || b) (sym (has_same s u.joins)) ∙ on),
          )

          q : (st : ObjectState) × (state_by s u (changed_of x p) ≡ Some st)
          q = state (changed_of x p) on

  pub planned : (S : State) (a : Uid) → S.begun (uid_number a) ≡ true → S.plan (uid_number a) ≡ plan_at x p →
      IsPlanned x S a s (states_for s p)
  planned S a begun plan = record {
    begun = begun;
    named = λ st of. subst (λ q. (target q s ≡ true) × (packed st ≡ state_for q)) (sym plan) (named st of);
    there = λ on. there (ap (λ q. target q s) (sym plan) ∙ on);
  }
    where
      object_is : (m n : ℕ) → object m ≡ object n → m ≡ n
      object_is m n e = ap (λ (u : Uid). u.num) e

      named : (st : ObjectState) → IsOf (object x) (states_for s p) st →
          (target (plan_at x p) s ≡ true) × (packed st ≡ state_for (plan_at x p))
      named st of =
          let f = left_from (commit.state_for s p) p.used st of.0 in
          let u : Used = f.0 in
          let mine : st.uid ≡ object u.x = uid_of u f.1 st f.2 in
          let r = sends_one u f.1 (object_is u.x x (sym mine ∙ of.1)) st f.2 in
          (r.1, r.2)
        where
          uid_of : (u : Used) → Uses u p.used → (st : ObjectState) → state_by s u (changed_of u.x p) ≡ Some st → st.uid ≡ object u.x
          uid_of u uses st sent = by (changed_of u.x p) refl sent
            where
              by : (o : Option ObjectState) → changed_of u.x p ≡ o → state_by s u o ≡ Some st → st.uid ≡ object u.x
              by None e h = one (order.has u.joins s) h
                where
                  one : (b : Bool) → (if b then u.loaded else None) ≡ Some st → st.uid ≡ object u.x
                  one true h = tidy.of u st uses h
                  one false h = absurd (cc h)
              by (Some c) e h = one (order.has u.stores s || order.has u.joins s) h
                where
                  one : (b : Bool) → (if b then Some c else None) ≡ Some st → st.uid ≡ object u.x
                  one true h = let same : c ≡ st = cc h in ap (λ (q : ObjectState). q.uid) (sym same) ∙ changed_is u.x p c e
                  one false h = absurd (cc h)

      there : target (plan_at x p) s ≡ true → (st : ObjectState) × IsOf (object x) (states_for s p) st
      there on =
          let f = is_sent on in
          let r = sends_one f.0 f.1 f.2 f.3.0 f.3.1 in
          (f.3.0, (passes_left (commit.state_for s p) p.used f.0 f.3.0 f.1 f.3.1, r.0))

pub states_are_planned : StatesArePlanned
states_are_planned x s S a p tidy begun plan = planned x s p tidy S a begun plan

-- ---- whom the prepare step asks

pub has_with : (n : ℕ) (ns : List ℕ) (m : ℕ) → (m ≡ n) ⊎ (order.has ns m ≡ true) → order.has (with_number n ns) m ≡ true
has_with n [] m (inl same) = or_left (n == m) false (ap (λ k. k == m) (sym same) ∙ test_same m)
has_with n [] m (inr on) = or_right (n == m) false on
has_with n (k ∷ ks) m h = by (nat_cmp n k) refl h (has_with n ks m)
  where
    by : (o : Ordering) → nat_cmp n k ≡ o → (m ≡ n) ⊎ (order.has (k ∷ ks) m ≡ true) → ((m ≡ n) ⊎ (order.has ks m ≡ true) →
        order.has (with_number n ks) m ≡ true) → order.has (match_ordering o (n ∷ k ∷ ks) (k ∷ ks) (k ∷ with_number n ks)) m ≡ true
    by Less is (inl same) ih = or_left (n == m) (order.has (k ∷ ks) m) (ap (λ j. j == m) (sym same) ∙ test_same m)
    by Less is (inr on) ih = or_right (n == m) (order.has (k ∷ ks) m) on
    by Equal is (inl same) ih =
        or_left (k == m) (order.has ks m) (ap (λ j. j == m) (sym (same ∙ nat_cmp-IsAntisymmetric n k is)) ∙ test_same m)
    by Equal is (inr on) ih = on
    by Greater is (inl same) ih = or_right (k == m) (order.has (with_number n ks) m) (ih (inl same))
    by Greater is (inr on) ih = ⊎_elim (λ one. or_left (k == m) (order.has (with_number n ks) m) one)
        (λ more. or_right (k == m) (order.has (with_number n ks) m) (ih (inr more))) (or_cases (k == m) (order.has ks m) on)

pub has_set : (ns : List ℕ) (m : ℕ) → order.has ns m ≡ true → order.has (number_set ns) m ≡ true
has_set [] m on = on
has_set (n ∷ ns) m on = ⊎_elim (λ one. has_with n (number_set ns) m (inl (sym (test_is n m one))))
    (λ more. has_with n (number_set ns) m (inr (has_set ns m more))) (or_cases (n == m) (order.has ns m) on)

pub has_both : (ks bs : List ℕ) (m : ℕ) → (order.has ks m ≡ true) ⊎ (order.has bs m ≡ true) → order.has (ks ++ bs) m ≡ true
has_both [] bs m (inl on) = absurd (cc on)
has_both [] bs m (inr on) = on
has_both (a ∷ more) bs m (inl on) = ⊎_elim (λ one. or_left (a == m) (order.has (more ++ bs) m) one)
    (λ rest. or_right (a == m) (order.has (more ++ bs) m) (has_both more bs m (inl rest))) (or_cases (a == m) (order.has more m) on)
has_both (a ∷ more) bs m (inr on) = or_right (a == m) (order.has (more ++ bs) m) (has_both more bs m (inr on))

has_each : (f : Used → List ℕ) (us : List Used) (u : Used) (m : ℕ) → Uses u us → order.has (f u) m ≡ true →
    order.has (flat_map f us) m ≡ true
has_each f [] u m uses on = absurd uses
has_each f (v ∷ vs) u m (inl same) on = has_both (f v) (flat_map f vs) m (inl (ap (λ w. order.has (f w) m) same ∙ on))
has_each f (v ∷ vs) u m (inr more) on = has_both (f v) (flat_map f vs) m (inr (has_each f vs u m more on))

pub targets_are_asked : TargetsAreAsked
targets_are_asked x s p on = at (used_at x p.used) refl on
  where
    asked : (u : Used) (o : Option ObjectState) → target (plan_by (Some u) o) s ≡ true → order.has (stores_by u o) s ≡ true
    asked u None on = sym (has_same s u.joins) ∙ on
    asked u (Some c) on = has_both u.stores u.joins s (⊎_elim (λ one. inl (sym (has_same s u.stores) ∙ one))
        (λ two. inr (sym (has_same s u.joins) ∙ two)) (or_cases (words.has s u.stores) (words.has s u.joins) on))

    at : (o : Option Used) → used_at x p.used ≡ o → target (plan_by o (changed_of x p)) s ≡ true → order.has (targets_of p) s ≡ true
    at None e on = absurd (cc on)
    at (Some u) e on =
        let r = used_there x p.used u e in
        has_set (flat_map (λ (u : Used). stores_by u (changed_of u.x p)) p.used) s
        (has_each (λ (u : Used). stores_by u (changed_of u.x p)) p.used u s r.0
        (ap (λ k. order.has (stores_by u (changed_of k p)) s) r.1 ∙ asked u (changed_of x p) on))

-- a target is sent a state of the object, and a state with the object's number goes to a target
pub sent_there : (x s : ℕ) (p : commit.Plan) → IsTidy p → target (plan_at x p) s ≡ true →
    (st : ObjectState) × IsOf (object x) (states_for s p) st
sent_there x s p tidy on =
    let f = is_sent x s p tidy on in
    let r = sends_one x s p tidy f.0 f.1 f.2 f.3.0 f.3.1 in
    (f.3.0, (passes_left (commit.state_for s p) p.used f.0 f.3.0 f.1 f.3.1, r.0))

pub sent_named : (x s : ℕ) (p : commit.Plan) → IsTidy p → (st : ObjectState) → Among st (states_for s p) → st.uid.num ≡ x →
    target (plan_at x p) s ≡ true
sent_named x s p tidy st among is =
    let f = left_from (commit.state_for s p) p.used st among in
    let own = sends_one f.0.x s p tidy f.0 f.1 refl st f.2 in
    let same : f.0.x ≡ x = sym (ap (λ (u : Uid). u.num) own.0) ∙ is in
    subst (λ k. target (plan_at k p) s ≡ true) same own.1
