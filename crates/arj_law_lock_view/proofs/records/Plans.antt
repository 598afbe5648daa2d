-- What the plan of a commit includes its top asked the lock for, and what it marks has changed or is included.
use Rattle.arj_law_parts.proofs.Words
use Words.{◌≡◌, ◌≢◌, ◌⊎◌, ◌∙◌, ◌≤◌, ◌==◌, ◌&&◌, ◌||◌, ℕ, Bool, true, false, cond, List, [], ◌∷◌, map, filter, min, Option, Some, None, refl}
use Words.{sym, ap, subst, inl, inr, ⊎_elim, arith, eqb-true, nat_lt, is_some, and_parts, or_cases, uid_is, uid_same, in_filter}
use Words.{in_filter_map, in_find, in_map, ObjectState, Uid, is_on, last_uid, object, uid_eq, actor, top_of, Known, Plan, Used, changed_of}
use Words.{least_of, marks_at, state_by, state_for, states_for, Coord, Grant, Joined, Root, Said, counts, counts_grant, is_called}
use Words.{is_retained, known_for, keeping_of, kept_of, said_in, joins_on, latest_of, later_state, loaded_for, is_kept_top, objects_in}
use Words.{or_kept_state, plan_for, root_at, survives, top_uses, used_of, at_number, binding_number, has, number_set, Branch, branch_of}
use Words.{is_merged, is_own, root_of, Post}
use Words.list
use Words.kind
use Rattle.arj_law_lock_view.proofs.Terms
use Terms.{action_of, paths_of, IsTree, begun_tree, retained, surviving, found_by, some_is, AreRecorded, IsIncluded, IsJoin, IsPlanSo}
use Terms.{IsRecorded, KnowsKept, KnowsSent, has_store, height, top_number, Tests}
use Rattle.arj_law_lock_view.proofs.facts.{Further.IsFurther, GrantSteps.found_any, Kept.Place, LowGrants.map_in}
use Rattle.arj_law_lock_view.proofs.records.{Namings.none_not, Tops.top_on}
use Rattle.arj_law_runs.proofs.calls.CommitPlans.{in_kept}

-- ---- a plan goes further

second : (a : Bool) {b : Bool} → b ≡ true → (a || b) ≡ true
second true on = refl
second false on = on

module _ (T : Tests) (sent : List Post) (k : ℕ) (u : Uid) where
  -- what is marked of a plan was sent: it has changed, or is included
  mark_so : (q : Plan) →
      ((w : Used) (s : ℕ) (st : ObjectState) → list.In w q.used → has w.joins s ≡ true → w.loaded ≡ Some st → st.uid.num ≡ w.x) →
      (s : ℕ) (m : ℕ × ℕ) → list.In m (marks_at s q) → (w : Used) × (n : ℕ) × list.In w q.used × (w.x ≡ m.0) × (has_store w n ≡ true)
  mark_so q loaded s m i =
      let f = in_map (λ (st : ObjectState). (st.uid.num, s)) m (states_for s q) i in
      let g = in_filter_map (state_for s q) f.0 q.used f.1 in
      by f.0 g.0 g.1 (ap (λ (z : ℕ × ℕ). z.0) f.2) (changed_of (g.0).x q) refl g.2
    where
      by : (st : ObjectState) (w : Used) → list.In w q.used → st.uid.num ≡ m.0 → (o : Option ObjectState) → changed_of w.x q ≡ o →
          state_by s w o ≡ Some st → (z : Used) × (n : ℕ) × list.In z q.used × (z.x ≡ m.0) × (has_store z n ≡ true)
      by st w there num None none is = one (has w.joins s) refl is
        where
          one : (b : Bool) → has w.joins s ≡ b → cond b w.loaded None ≡ Some st →
              (z : Used) × (n : ℕ) × list.In z q.used × (z.x ≡ m.0) × (has_store z n ≡ true)
          one true on e = (w, s, there, sym (loaded w s st there on e) ∙ num, second (has w.stores s) on)
          one false isnt e = none_not e
      by st w there num (Some new) found is = one (has w.stores s || has w.joins s) refl is
        where
          one : (b : Bool) → (has w.stores s || has w.joins s) ≡ b → cond b (Some new) None ≡ Some st →
              (z : Used) × (n : ℕ) × list.In z q.used × (z.x ≡ m.0) × (has_store z n ≡ true)
          one true on e = (
            w,
            s,
            there,
            sym (ap (λ (v : Uid). v.num) (uid_is new.uid (object w.x) (in_find (λ z. uid_eq z.uid (object w.x)) new q.changed found).1))
                ∙ ap (λ (z : ObjectState). z.uid.num) (some_is e) ∙ num,
            on,
          )
          one false isnt e = none_not e

  pub further_so : (p q : Plan) → IsFurther p q → IsPlanSo T sent k u p → IsPlanSo T sent k u q
  further_so p q further its = record {
    used = λ w s i on. its.used w s (subst (λ us. list.In w us) further.used i) on;
    loaded = loaded;
    marks = λ m i. ⊎_elim (λ old. let f = its.marks m old in (f.0, f.1, subst (λ us. list.In f.0 us) (sym further.used) f.2, f.3, f.4))
        (λ new. mark_so q loaded new.0 m new.1) (further.marks m i);
  }
    where
      loaded : (w : Used) (s : ℕ) (st : ObjectState) → list.In w q.used → has w.joins s ≡ true → w.loaded ≡ Some st → st.uid.num ≡ w.x
      loaded w s st i on is = its.loaded w s st (subst (λ us. list.In w us) further.used i) on is

-- ---- a commit is called

least_below : (n : ℕ) (ns : List ℕ) → list.In n ns → least_of ns ≤ n
least_below n [] i = absurd i
least_below n (m ∷ []) (inl is) = subst (λ z. m ≤ z) is (omega arith)
least_below n (m ∷ []) (inr i) = absurd i
least_below n (m ∷ k ∷ ks) (inl is) = subst (λ z. min m (least_of (k ∷ ks)) ≤ z) is (left m (least_of (k ∷ ks)))
  where
    left : (a b : ℕ) → min a b ≤ a
    left a b = grind arith
least_below n (m ∷ k ∷ ks) (inr i) = right m (least_of (k ∷ ks)) n (least_below n (k ∷ ks) i)
  where
    right : (a b c : ℕ) → b ≤ c → min a b ≤ c
    right a b c le = grind (arith, le)

module _ (T : Tests) (sent : List Post) (k : ℕ) (c : Coord) (place : Place sent k c) (down : (x v w : ℕ) → w ≤ v → T.past x v ≡ true →
    T.past x w ≡ true) (its_sent : KnowsSent sent k c) (knows : KnowsKept c T sent c) (b : Branch) (found : branch_of (actor b.path) c.tree
    ≡ Some b) (opened : is_some b.ended ≡ false) (top : (b.kind ≢ kind.Nested) × (b.kind ≢ kind.Serial)) (req : ℕ) where
  abbrev u : Uid
  u = actor b.path

  its_tree : IsTree (paths_of place.actions)
  its_tree = begun_tree place.actions place.begun

  abbrev r : Root
  r = root_at (root_of b.path) c

  -- a surviving include is of this top
  of_top : (j : Joined) → list.In j r.joined → (i : IsJoin c T r j) → survives (actor b.path) j.path c ≡ true →
      top_of i.branch.path ≡ actor b.path
  of_top j there i on =
      let p = and_parts (is_on j.path (actor b.path)) (is_merged (actor b.path) j.path c.tree) on in
      top_on place.actions place.begun (action_of b) (let g = place.good in g.known (actor b.path) b found) top.0 top.1 (action_of i.branch)
      (let g = place.good in g.known (last_uid j.path) i.branch i.found) (ap (λ us. is_on us (actor b.path)) i.path ∙ p.0)

  grant_below : (x g : ℕ) → IsIncluded T x u g r → (let w = used_of u r c x in w.grant) ≤ g
  grant_below x g i = upto (least_of (map (λ (h : Grant). h.least) (filter (counts_grant u x r c) r.grants))) i.grant.least g
      (least_below i.grant.least _ (map_in (λ (h : Grant). h.least) i.grant (filter (counts_grant u x r c) r.grants)
      (in_kept (counts_grant u x r c) i.grant r.grants i.there counted))) i.low
    where
      upto : (a m n : ℕ) → a ≤ m → m ≤ n → a ≤ n
      upto a m n h l = omega (arith, h, l)

      equal : (a m : ℕ) → a ≡ m → (a == m) ≡ true
      equal a m is = grind (arith, is)

      counted : counts_grant u x r c i.grant ≡ true
      counted = (λ z. equal i.grant.x x i.object z && (own z || (is_kept_top i.grant.top c && top_uses i.grant.top x r c)))
        where
          own : uid_eq i.grant.top u ≡ true
          own = ap (λ v. uid_eq v u) i.of ∙ uid_same u

  -- what is loaded is of the object
  latest_so : (x : ℕ) (o : Option ObjectState) (js : List Joined) → ((st : ObjectState) → o ≡ Some st → st.uid.num ≡ x) →
      ((j : Joined) → list.In j js → j.loaded.uid.num ≡ x) → (st : ObjectState) → latest_of o js ≡ Some st → st.uid.num ≡ x
  latest_so x o [] had all st is = had st is
  latest_so x None (j ∷ js) had all st is = latest_so x (Some j.loaded) js
      (λ z e. ap (λ (v : ObjectState). v.uid.num) (sym (some_is e)) ∙ all j (inl refl)) (λ z i. all z (inr i)) st is
  latest_so x (Some s) (j ∷ js) had all st is = latest_so x (Some (later_state s j.loaded)) js
      (λ z e. ap (λ (v : ObjectState). v.uid.num) (sym (some_is e)) ∙ one (nat_lt s.version j.loaded.version)) (λ z i. all z (inr i)) st is
    where
      one : (w : Bool) → (cond w j.loaded s).uid.num ≡ x
      one true = all j (inl refl)
      one false = had s refl

  or_so : (x : ℕ) (o p : Option ObjectState) → ((st : ObjectState) → o ≡ Some st → st.uid.num ≡ x) →
      ((st : ObjectState) → p ≡ Some st → st.uid.num ≡ x) → (st : ObjectState) → or_kept_state o p ≡ Some st → st.uid.num ≡ x
  or_so x None p a e st is = none_not is
  or_so x (Some s) None a e st is = a st is
  or_so x (Some s) (Some t) a e st is = ap (λ (v : ObjectState). v.uid.num) (sym (some_is is)) ∙ one (nat_lt s.version t.version)
    where
      one : (w : Bool) → (cond w t s).uid.num ≡ x
      one true = e t refl
      one false = a s refl

  loaded_at : (x : ℕ) (st : ObjectState) → loaded_for x u r c ≡ Some st → st.uid.num ≡ x
  loaded_at x st is = or_so x (latest_of None (joins_on x u r c)) (at_number x r.states) (λ z e. latest_so x None (joins_on x u r c)
      (λ y f. none_not f) (λ j i. num j (in_filter (λ (z : Joined). (z.x == x) && survives u z.path c) j r.joined i)) z e)
      (λ z e. knows.states (root_of b.path) x z e) st is
    where
      num : (j : Joined) → list.In j r.joined × (((j.x == x) && survives u j.path c) ≡ true) → j.loaded.uid.num ≡ x
      num j f = let n = knows.joined (root_of b.path) j f.0 in n.loaded ∙ eqb-true j.x x (and_parts (j.x == x) (survives u j.path c) f.1).0

  -- an object that was called keeps its binding, which was recorded
  called_at : (z : Said) → list.In z r.said → counts u z.path c ≡ true → IsRecorded (kept_of z.x r)
  called_at z there on = ⊎_elim (λ spent. absurd (⊎_elim (surviving place.actions (paths_of place.actions) its_tree sent k c place.good
      place.binds b found opened z (let w = place.binds in w.said (root_of b.path) z there) spent.0 spent.1 spent.2)
      (retained place.actions (paths_of place.actions) its_tree sent k c place.good place.binds b found opened z (let w = place.binds in
      w.said (root_of b.path) z there) spent.0 spent.1 spent.2) (or_cases (survives u z.path c) (is_retained z.path c) on))) (λ rec. rec)
      (knows.said (root_of b.path) z there)

  recorded_at : (x : ℕ) → IsRecorded (kept_of x r) → AreRecorded T sent k u x
  recorded_at x rec p h bd i g there from is of = by (keeping_of x r).kept refl rec
    where
      root : root_of h.path ≡ root_of b.path
      root = let q = its_sent.rooted p h x bd i g there from is own in
          sym q.2 ∙ ap (λ (z : Branch). root_of z.path) (some_is (sym q.1 ∙ ap (λ v. branch_of v c.tree) of ∙ found))
        where
          own : is_own (top_of h.path) c.tree ≡ true
          own = ap (λ v. is_own v c.tree) of ∙ (found_by (actor b.path) c.tree b found).0

      low : binding_number bd ≤ height (keeping_of x r)
      low = subst (λ v. binding_number bd ≤ height (keeping_of x (root_at v c))) root (knows.records p h x bd i g there
          (from ∙ sym its_sent.node) is (ap (λ v. is_own v c.tree) of ∙ (found_by (actor b.path) c.tree b found).0))

      by : (o : Option Known) → (keeping_of x r).kept ≡ o → IsRecorded o → T.past x (binding_number bd) ≡ true
      by None at was = absurd was
      by (Some z) at was = let its = (knows.keeps (root_of b.path) x).kept z at in down x (binding_number z.binding) (binding_number bd)
          (subst (λ o. binding_number bd ≤ top_number o (keeping_of x r).avoid) at low) (its.past was)

  joined_at : (x s : ℕ) → has (let w = used_of u r c x in w.joins) s ≡ true →
      (j : Joined) × list.In j r.joined × (j.x ≡ x) × (survives (actor b.path) j.path c ≡ true)
  joined_at x s on = by (joins_on x u r c) refl on
    where
      by : (js : List Joined) → joins_on x u r c ≡ js → has (number_set (map (λ (j : Joined). j.store) js)) s ≡ true →
          (j : Joined) × list.In j r.joined × (j.x ≡ x) × (survives (actor b.path) j.path c ≡ true)
      by [] is h = absurd (cc h)
      by (j ∷ js) is h =
          let f = in_filter (λ (z : Joined). (z.x == x) && survives u z.path c) j r.joined (subst (λ l. list.In j l) (sym is) (inl refl)) in
          let p = and_parts (j.x == x) (survives u j.path c) f.1 in
          (j, f.0, eqb-true j.x x p.0, p.1)

  used_so : (x s : ℕ) → has_store (used_of u r c x) s ≡ true →
      ((g : ℕ) × ((let w = used_of u r c x in w.grant) ≤ g) × (T.asked x u g ≡ true)) ⊎ AreRecorded T sent k u x
  used_so x s on = by (is_called x u r c) refl on
    where
      by : (called : Bool) → is_called x u r c ≡ called →
          (has (let z = known_for called x r in z.stores) s || has (let w = used_of u r c x in w.joins) s) ≡ true →
          ((g : ℕ) × ((let w = used_of u r c x in w.grant) ≤ g) × (T.asked x u g ≡ true)) ⊎ AreRecorded T sent k u x
      by true called at =
          let f = found_any (λ (z : Said). z.x == x) (said_in u r c) called in
          let g = in_filter (λ (z : Said). counts u z.path c) f.0 r.said f.1 in
          inr (subst (AreRecorded T sent k u) (eqb-true (let z = f.0 in z.x) x f.2)
          (recorded_at (let z = f.0 in z.x) (called_at f.0 g.0 g.1)))
      by false called at =
          let f = joined_at x s at in
          let n = knows.joined (root_of b.path) f.0 f.1 in
          let its : IsIncluded T x u n.grant r = subst (λ y. IsIncluded T y u n.grant r) f.2
          (subst (λ v. IsIncluded T (f.0).x v n.grant r) (of_top f.0 f.1 n f.3) n.included) in
          inl (n.grant, grant_below x n.grant its, its.asked)

  pub called_so : IsPlanSo T sent k (actor b.path) (plan_for b.path req r c)
  called_so = record {
    used = λ w s i on. let f = in_map (used_of u r c) w (objects_in u r c) i in subst (λ (z : Used). ((g : ℕ) × (z.grant ≤ g) × (T.asked z.x
        u g ≡ true)) ⊎ AreRecorded T sent k u z.x) f.2 (used_so f.0 s (subst (λ (z : Used). has_store z s ≡ true) (sym f.2) on));
    loaded = λ w s st i on is. let f = in_map (used_of u r c) w (objects_in u r c) i in
        subst (λ (z : Used). z.loaded ≡ Some st → st.uid.num ≡ z.x) f.2 (λ e. loaded_at f.0 st e) is;
    marks = λ m i. absurd i;
  }
