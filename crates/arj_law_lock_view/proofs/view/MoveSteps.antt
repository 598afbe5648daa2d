-- What a coordinator does to what its roots note of includes, and to what waits: one change after another.
use Rattle.arj_law_parts.proofs.Words
use Words.{Bool, List, None, Option, Some, [], ap, arith, cond, eqb-true, false, inl, inr, is_some, min, refl, subst, sym, true, unwrap_or}
use Words.{ℕ, ⊎_elim, ◌&&◌, ◌*◌, ◌++◌, ◌==◌, ◌∙◌, ◌∷◌, ◌≡◌, ◌≢◌, ◌≤◌, ◌⊎◌, Contains, list_any, and_parts, uid_cases, uid_is, in_from, in_to}
use Words.{End, Uid, last_uid, uid_eq, Reply, notes_grant, root_lost, root_moved, CallStep, Moved, Steps, Machine, Plan, Calling}
use Words.{Committing, Coord, Doing, Grant, Idle, Joined, Keeping, Root, Said, Went, change_doing, doing_of, granted_with, is_grant_of}
use Words.{joined_with, later_state, named_last, no_root, on_doing, on_root, root_at, same_join, same_said, same_went, with_join}
use Words.{with_keeping, with_said, with_went, ended, root_after, at_number, Branch, Tree, at_place, branch_of}
use Words.list
use Rattle.arj_law_lock_view.proofs.Terms.{IsSameTree, doing_other}
use Rattle.arj_law_lock_view.proofs.view.{OneSteps.OnlyOne, OneSteps.end_changed, RootSteps.root_else, RootSteps.root_here}
use Rattle.arj_law_lock_view.specs.view.Including.{HasGrant}

-- ---- what a root notes

-- The root has the same answered includes, and no grant is worse.
pub record Grows (x : ℕ) (r q : Root) : Type 0 where
  pub back : (j : Joined) → Contains q.joined j → j.x ≡ x → Contains r.joined j
  pub forth : (j : Joined) → Contains r.joined j → j.x ≡ x → Contains q.joined j
  pub grants : (top : Uid) (n : ℕ) → HasGrant r x top n → HasGrant q x top n

pub grows_same : (x : ℕ) (r q : Root) → q.joined ≡ r.joined → q.grants ≡ r.grants → Grows x r q
grows_same x r q joined grants = record {
  back = λ j there about. subst (λ (js : List Joined). Contains js j) joined there;
  forth = λ j there about. subst (λ (js : List Joined). Contains js j) (sym joined) there;
  grants = λ top n h. (h.0, subst (λ (gs : List Grant). Contains gs h.0) (sym grants) h.1, h.2, h.3, h.4);
}

pub grows_both : (x : ℕ) (r q s : Root) → Grows x r q → Grows x q s → Grows x r s
grows_both x r q s a b = record {
  back = λ j there about. a.back j (b.back j there about) about;
  forth = λ j there about. b.forth j (a.forth j there about) about;
  grants = λ top n h. b.grants top n (a.grants top n h);
}

pub grows_went : (x : ℕ) (w : Went) (r : Root) → Grows x r (with_went w r)
grows_went x w r = by (list_any (same_went w) r.went)
  where
    by : (t : Bool) → Grows x r (cond t r (record r { went = r.went ++ w ∷ [] }))
    by true = grows_same x r r refl refl
    by false = grows_same x r (record r { went = r.went ++ w ∷ [] }) refl refl

pub grows_said : (x : ℕ) (z : Said) (r : Root) → Grows x r (with_said z r)
grows_said x z r = by (list_any (same_said z) r.said)
  where
    by : (t : Bool) → Grows x r (cond t r (record r { said = r.said ++ z ∷ [] }))
    by true = grows_same x r r refl refl
    by false = grows_same x r (record r { said = r.said ++ z ∷ [] }) refl refl

pub grows_kept : (x y : ℕ) (k : Keeping) (r : Root) → Grows x r (with_keeping y k r)
grows_kept x y k r = grows_same x r (with_keeping y k r) refl refl

-- an answered include of another object
pub grows_join : (x : ℕ) (j : Joined) (r : Root) → j.x ≢ x → Grows x r (with_join j r)
grows_join x j r other = record {
  back = λ k there about. in_to k r.joined (from r.joined k (in_from k (joined_with j r.joined) there) about);
  forth = λ k there about. in_to k (joined_with j r.joined) (still r.joined k (in_from k r.joined there) about);
  grants = λ top n h. h;
}
  where
    same_x : (f : Joined) → same_join j f ≡ true → j.x ≡ f.x
    same_x f e = let two = and_parts (uid_eq (last_uid j.path) (last_uid f.path)) ((j.x == f.x) && (j.store == f.store)) e in
        let more = and_parts (j.x == f.x) (j.store == f.store) two.1 in eqb-true j.x f.x more.0

    from : (js : List Joined) (k : Joined) → list.In k (joined_with j js) → k.x ≡ x → list.In k js
    from [] k (inl is) about = absurd (other (ap (λ (y : Joined). y.x) is ∙ about))
    from [] k (inr i) about = absurd i
    from (f ∷ fs) k i about = by (same_join j f) refl i (λ q. from fs k q about)
      where
        by : (t : Bool) → same_join j f ≡ t → list.In k (cond t (record f { loaded = later_state f.loaded j.loaded } ∷ fs)
            (f ∷ joined_with j fs)) → (list.In k (joined_with j fs) → list.In k fs) → list.In k (f ∷ fs)
        by true e (inl is) ih = absurd (other (same_x f e ∙ ap (λ (y : Joined). y.x) is ∙ about))
        by true e (inr q) ih = inr q
        by false e (inl is) ih = inl is
        by false e (inr q) ih = inr (ih q)

    still : (js : List Joined) (k : Joined) → list.In k js → k.x ≡ x → list.In k (joined_with j js)
    still [] k i about = absurd i
    still (f ∷ fs) k i about = by (same_join j f) refl i (λ q. still fs k q about)
      where
        by : (t : Bool) → same_join j f ≡ t → list.In k (f ∷ fs) → (list.In k fs → list.In k (joined_with j fs)) →
            list.In k (cond t (record f { loaded = later_state f.loaded j.loaded } ∷ fs) (f ∷ joined_with j fs))
        by true e (inl is) ih = absurd (other (same_x f e ∙ ap (λ (y : Joined). y.x) is ∙ about))
        by true e (inr q) ih = inr q
        by false e (inl is) ih = inl is
        by false e (inr q) ih = inr (ih q)

-- a grant that was there is there, no worse
old_grant : (g : Grant) (gs : List Grant) (h : Grant) → list.In h gs →
    (k : Grant) × list.In k (granted_with g gs) × (k.top ≡ h.top) × (k.x ≡ h.x) × (k.least ≤ h.least)
old_grant g [] h i = absurd i
old_grant g (f ∷ fs) h i = by (is_grant_of g.top g.x f) i (λ j. old_grant g fs h j)
  where
    least : (a b : ℕ) → min a b ≤ a
    least a b = grind arith

    by : (t : Bool) → list.In h (f ∷ fs) →
        (list.In h fs → (k : Grant) × list.In k (granted_with g fs) × (k.top ≡ h.top) × (k.x ≡ h.x) × (k.least ≤ h.least))
        → (k : Grant) × list.In k (cond t (record f { least = min f.least g.least; named = named_last g.named f.named } ∷ fs)
        (f ∷ granted_with g fs)) × (k.top ≡ h.top) × (k.x ≡ h.x) × (k.least ≤ h.least)
    by true (inl is) ih = (
      record f { least = min f.least g.least; named = named_last g.named f.named },
      inl refl,
      ap (λ (y : Grant). y.top) is,
      ap (λ (y : Grant). y.x) is,
      subst (λ (y : Grant). min f.least g.least ≤ y.least) is (least f.least g.least),
    )
    by true (inr j) ih = (h, inr j, refl, refl, omega arith)
    by false (inl is) ih =
        (f, inl refl, ap (λ (y : Grant). y.top) is, ap (λ (y : Grant). y.x) is, subst (λ (y : Grant). f.least ≤ y.least) is (omega arith))
    by false (inr j) ih = let k = ih j in (k.0, inr k.1, k.2, k.3, k.4)

-- and the new one is
pub new_grant : (g : Grant) (gs : List Grant) →
    (k : Grant) × list.In k (granted_with g gs) × (k.top ≡ g.top) × (k.x ≡ g.x) × (k.least ≤ g.least)
new_grant g [] = (g, inl refl, refl, refl, omega arith)
new_grant g (f ∷ fs) = by (is_grant_of g.top g.x f) refl (new_grant g fs)
  where
    least : (a b : ℕ) → min a b ≤ b
    least a b = grind arith

    by : (t : Bool) → is_grant_of g.top g.x f ≡ t →
        (k : Grant) × list.In k (granted_with g fs) × (k.top ≡ g.top) × (k.x ≡ g.x) × (k.least ≤ g.least)
        → (k : Grant) × list.In k (cond t (record f { least = min f.least g.least; named = named_last g.named f.named } ∷ fs)
        (f ∷ granted_with g fs)) × (k.top ≡ g.top) × (k.x ≡ g.x) × (k.least ≤ g.least)
    by true e ih = let two = and_parts (uid_eq f.top g.top) (f.x == g.x) e in (
      record f { least = min f.least g.least; named = named_last g.named f.named },
      inl refl,
      uid_is f.top g.top two.0,
      eqb-true f.x g.x two.1,
      least f.least g.least,
    )
    by false e ih = (ih.0, inr ih.1, ih.2, ih.3, ih.4)

pub grows_granted : (x : ℕ) (o : Option Grant) (r : Root) → Grows x r (notes_grant o r)
grows_granted x None r = grows_same x r r refl refl
grows_granted x (Some g) r = record {
  back = λ j there about. there;
  forth = λ j there about. there;
  grants = λ top n h. (let k = old_grant g r.grants h.0 (in_from h.0 r.grants h.1) in let l = k.4 in let low = h.4 in (
    k.0,
    in_to k.0 (granted_with g r.grants) k.1,
    k.2 ∙ h.2,
    k.3 ∙ h.3,
    scaled (let a = k.0 in a.least) (let a = h.0 in a.least) n l low,
  ));
}
  where
    scaled : (a b n : ℕ) → a ≤ b → b * 4294967296 ≤ n → a * 4294967296 ≤ n
    scaled a b n p q = omega (arith, p, q)

pub grows_moved : (x : ℕ) (s : Steps) (r : Reply) (m : Moved) (q : Root) → Grows x q (root_moved s r m q)
grows_moved x s r m q = grows_both x q _ (root_moved s r m q) (grows_granted x _ q) (grows_kept x s.x _ _)

pub grows_lost : (x : ℕ) (s : Steps) (t : CallStep) (q : Root) → Grows x q (root_lost s t q)
grows_lost x s t q = grows_kept x s.x _ q

pub grows_decided : (x : ℕ) (p : Plan) (q : Root) → Grows x q (root_after p q)
grows_decided x p q = grows_same x q (root_after p q) refl refl

-- ---- a coordinator

-- From one coordinator to the next: what roots note grows, branches stand where they stood, and but for some actions none ends, and but for
-- some none calls anew or sets out to commit.
pub record Moves (x : ℕ) (c e : Coord) (Ends New : Uid → Type 0) : Type 0 where
  pub roots : (w : Uid) → Grows x (root_at w c) (root_at w e)
  pub was : (w : Uid) (q : Branch) → branch_of w e.tree ≡ Some q →
      (r : Branch) × (branch_of w c.tree ≡ Some r) × (r.path ≡ q.path) × (is_some q.ended ≡ true → (is_some r.ended ≡ true) ⊎ Ends w)
  pub still : (w : Uid) (r : Branch) → branch_of w c.tree ≡ Some r → (q : Branch) × (branch_of w e.tree ≡ Some q) × (r.path ≡ q.path)
  pub calls : (w : Uid) (d : Doing) (s : Steps) → doing_of w e ≡ Some d → d.now ≡ Calling s →
      ((k : Doing) × (doing_of w c ≡ Some k) × (k.now ≡ Calling s)) ⊎ New w
  pub commits : (w : Uid) (d : Doing) (m : Machine) → doing_of w e ≡ Some d → d.now ≡ Committing m →
      ((k : Doing) × (doing_of w c ≡ Some k) × (k.now ≡ Committing m)) ⊎ New w

pub moves_both : (x : ℕ) (c e f : Coord) (Ends New : Uid → Type 0) → Moves x c e Ends New → Moves x e f Ends New → Moves x c f Ends New
moves_both x c e f Ends New a b = record {
  roots = λ w. grows_both x (root_at w c) (root_at w e) (root_at w f) (a.roots w) (b.roots w);
  was = λ w q there. (let r = b.was w q there in let p = a.was w r.0 r.1 in
      (p.0, p.1, p.2 ∙ r.2, λ gone. ⊎_elim p.3 (λ new. inr new) (r.3 gone)));
  still = λ w r there. (let q = a.still w r there in let p = b.still w q.0 q.1 in (p.0, p.1, q.2 ∙ p.2));
  calls = λ w d s works is. ⊎_elim (λ k. a.calls w k.0 s k.1 k.2) (λ new. inr new) (b.calls w d s works is);
  commits = λ w d m works is. ⊎_elim (λ k. a.commits w k.0 m k.1 k.2) (λ new. inr new) (b.commits w d m works is);
}

pub moves_none : (x : ℕ) (c : Coord) (Ends New : Uid → Type 0) → Moves x c c Ends New
moves_none x c Ends New = record {
  roots = λ w. grows_same x (root_at w c) (root_at w c) refl refl;
  was = λ w q there. (q, there, refl, λ gone. inl gone);
  still = λ w r there. (r, there, refl);
  calls = λ w d s works is. inl (d, works, is);
  commits = λ w d m works is. inl (d, works, is);
}

-- a root notes something
pub moves_root : (x : ℕ) (c : Coord) (Ends New : Uid → Type 0) (rt : Uid) (f : Root → Root) → ((r : Root) → Grows x r (f r)) →
    Moves x c (on_root rt f c) Ends New
moves_root x c Ends New rt f grows = record {
  roots = λ w. ⊎_elim
      (λ (is : w.num ≡ rt.num). subst (Grows x (root_at w c))
      (sym (by_num (on_root rt f c) w is ∙ root_here rt f c ∙ ap f (sym (by_num c w is)))) (grows (root_at w c)))
      (λ (apart : w.num ≢ rt.num).
      subst (Grows x (root_at w c)) (sym (root_else rt f c w apart)) (grows_same x (root_at w c) (root_at w c) refl refl))
      (number_cases w.num rt.num);
  was = λ w q there. (q, there, refl, λ gone. inl gone);
  still = λ w r there. (r, there, refl);
  calls = λ w d s works is. inl (d, works, is);
  commits = λ w d m works is. inl (d, works, is);
}
  where
    number_cases : (m n : ℕ) → (m ≡ n) ⊎ (m ≢ n)
    number_cases m n = grind arith

    by_num : (z : Coord) (w : Uid) → w.num ≡ rt.num → root_at w z ≡ root_at rt z
    by_num z w is = ap (λ (n : ℕ). unwrap_or (at_number n z.roots) no_root) is

-- one action's work changes
pub moves_doing : (x : ℕ) (c : Coord) (Ends New : Uid → Type 0) (u : Uid) (g : Doing → Doing) → New u → Moves x c (on_doing u g c) Ends New
moves_doing x c Ends New u g new = by (doing_of u c) refl
  where
    by : (o : Option Doing) → doing_of u c ≡ o → Moves x c (change_doing g u c o) Ends New
    by None none = moves_none x c Ends New
    by (Some d) works = record {
      roots = λ w. grows_same x (root_at w c) (root_at w c) refl refl;
      was = λ w q there. (q, there, refl, λ gone. inl gone);
      still = λ w r there. (r, there, refl);
      calls = λ w k s found is. ⊎_elim (λ (same : w ≡ u). inr (subst New (sym same) new))
          (λ (other : w ≢ u). inl (k, sym (doing_other u w (g d) d c works other) ∙ found, is)) (uid_cases w u);
      commits = λ w k m found is. ⊎_elim (λ (same : w ≡ u). inr (subst New (sym same) new))
          (λ (other : w ≢ u). inl (k, sym (doing_other u w (g d) d c works other) ∙ found, is)) (uid_cases w u);
    }

-- the tree changes in nothing that matters
pub moves_tree : (x : ℕ) (c : Coord) (Ends New : Uid → Type 0) (t : Tree) → IsSameTree c.tree t → Moves x c (record c { tree = t }) Ends New
moves_tree x c Ends New t same = record {
  roots = λ w. grows_same x (root_at w c) (root_at w c) refl refl;
  was = λ w q there. (let r = same.back w q there in (r.0, r.1, r.2, λ gone. inl (ap is_some r.4 ∙ gone)));
  still = λ w r there. (let q = same.forth w r there in (q.0, q.1, q.2));
  calls = λ w d s works is. inl (d, own w ∙ works, is);
  commits = λ w d m works is. inl (d, own w ∙ works, is);
}
  where
    own : (w : Uid) → doing_of w c ≡ doing_of w (record c { tree = t })
    own w = λ i. cond (sym (same.own w) i) (at_place w.num c.doings) None

-- nothing but what is told changes
pub moves_told : (x : ℕ) (c e : Coord) (Ends New : Uid → Type 0) → e.tree ≡ c.tree → ((w : Uid) → doing_of w e ≡ doing_of w c) →
    ((w : Uid) → root_at w e ≡ root_at w c) → Moves x c e Ends New
moves_told x c e Ends New tree doings roots = record {
  roots = λ w. subst (Grows x (root_at w c)) (sym (roots w)) (grows_same x (root_at w c) (root_at w c) refl refl);
  was = λ w q there. (q, ap (branch_of w) (sym tree) ∙ there, refl, λ gone. inl gone);
  still = λ w r there. (r, ap (branch_of w) tree ∙ there, refl);
  calls = λ w d s works is. inl (d, sym (doings w) ∙ works, is);
  commits = λ w d m works is. inl (d, sym (doings w) ∙ works, is);
}

-- an action ends
pub moves_end : (x : ℕ) (c : Coord) (Ends New : Uid → Type 0) (u : Uid) (b : Branch) (d : Doing) (e : End) → branch_of u c.tree ≡ Some b →
    doing_of u c ≡ Some d → Ends u → New u → ((w : Uid) → root_at w (ended u e c) ≡ root_at w c) → Moves x c (ended u e c) Ends New
moves_end x c Ends New u b d e found works over new roots = record {
  roots = λ w. subst (Grows x (root_at w c)) (sym (roots w)) (grows_same x (root_at w c) (root_at w c) refl refl);
  was = λ w q there. ⊎_elim
      (λ (is : w ≡ u).
      let two : ◌≡◌ {A = Option Branch} (Some (record b { ended = Some e })) (Some q) = sym one.branch
      ∙ ap (λ (v : Uid). branch_of v (let k = ended u e c in k.tree)) (sym is) ∙ there in
      let same : record b { ended = Some e } ≡ q = cc two in
      (b, ap (λ (v : Uid). branch_of v c.tree) is ∙ found, ap (λ (v : Branch). v.path) same, λ gone. inr (subst Ends (sym is) over)))
      (λ (other : w ≢ u). (q, sym (one.branches w other) ∙ there, refl, λ gone. inl gone))
      (uid_cases w u);
  still = λ w r there. ⊎_elim
      (λ (is : w ≡ u).
      let two : ◌≡◌ {A = Option Branch} (Some b) (Some r) = sym found ∙ ap (λ (v : Uid). branch_of v c.tree) (sym is) ∙ there in
      let same : b ≡ r = cc two in (
        record b { ended = Some e },
        ap (λ (v : Uid). branch_of v (let k = ended u e c in k.tree)) is ∙ one.branch,
        ap (λ (v : Branch). v.path) (sym same),
      ))
      (λ (other : w ≢ u). (r, one.branches w other ∙ there, refl))
      (uid_cases w u);
  calls = λ w k s has_it is. ⊎_elim (λ (same : w ≡ u). inr (subst New (sym same) new))
      (λ (other : w ≢ u). inl (k, sym (one.doings w other) ∙ has_it, is)) (uid_cases w u);
  commits = λ w k m has_it is. ⊎_elim (λ (same : w ≡ u). inr (subst New (sym same) new))
      (λ (other : w ≢ u). inl (k, sym (one.doings w other) ∙ has_it, is)) (uid_cases w u);
}
  where
    one : OnlyOne c u (record b { ended = Some e }) (record d { now = Idle }) (ended u e c)
    one = end_changed c u b d found works e
