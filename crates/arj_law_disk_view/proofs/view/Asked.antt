-- What a commit machine asks claims what is true.
use Rattle.arj_law_parts.proofs.Words
use Words.{◌≡◌, ◌⊎◌, ℕ, ◌==◌, ◌&&◌, ◌||◌, not, List, [], ◌∷◌, ◌++◌, Bool, true, false, cond, Option, Some, None, refl, sym, ◌∙◌, ap, subst}
use Words.{inl, inr, map, filter, append-nil, or_parts, or_left, or_right, map-append, filter-append, ObjectState, Used, is_marked}
use Words.{included_of, joins_left, changed_of, marked, names_grant}
use Words.commit
use Words.order
use Rattle.arj_law_disk_view.proofs.Terms
use Terms.{flat_map, State, target, bool_cases, test_is, test_same, SeesConfirming, SaysMarks, used_at, plan_by, plan_at, Uses, AreApart}
use Terms.{AreDistinct}
use Terms.disk
use Terms.words
use Rattle.arj_law_disk_view.proofs.view.Planned.{has_same, used_there}

-- what stays of a filter's list stands once
filter_distinct : (f : ℕ → Bool) (ns : List ℕ) → AreDistinct ns → AreDistinct (filter f ns)
filter_distinct f [] d = tt
filter_distinct f (n ∷ ns) d = by (f n) (filter_distinct f ns d.1)
  where
    less : (ns : List ℕ) → order.has ns n ≡ false → order.has (filter f ns) n ≡ false
    less [] h = refl
    less (m ∷ ms) h = let p = or_parts (m == n) (order.has ms n) h in one (f m) p.0 (less ms p.1)
      where
        one : (b : Bool) → (m == n) ≡ false → order.has (filter f ms) n ≡ false →
            order.has (cond b (m ∷ filter f ms) (filter f ms)) n ≡ false
        one true e ih = (λ i. e i || order.has (filter f ms) n) ∙ ih
        one false e ih = ih

    by : (b : Bool) → AreDistinct (filter f ns) → AreDistinct (cond b (n ∷ filter f ns) (filter f ns))
    by true ih = (less ns d.0, ih)
    by false ih = ih

-- the stores of one object's pairs, and of another's
pairs_own : (x : ℕ) (ss : List ℕ) → marked x (map {A = ℕ} {B = ℕ × ℕ} (λ s. (x, s)) ss) ≡ ss
pairs_own x [] = refl
pairs_own x (s ∷ ss) =
    ap (λ b. map (λ (m : ℕ × ℕ). m.1) (cond b ((x, s) ∷ filter (λ (m : ℕ × ℕ). m.0 == x) (map {A = ℕ} {B = ℕ × ℕ} (λ s. (x, s)) ss))
    (filter (λ (m : ℕ × ℕ). m.0 == x) (map {A = ℕ} {B = ℕ × ℕ} (λ s. (x, s)) ss)))) (test_same x) ∙ ap (λ ns. s ∷ ns) (pairs_own x ss)

pairs_other : (x y : ℕ) (ss : List ℕ) → (y == x) ≡ false → marked x (map {A = ℕ} {B = ℕ × ℕ} (λ s. (y, s)) ss) ≡ []
pairs_other x y [] e = refl
pairs_other x y (s ∷ ss) e = ap (λ b. map (λ (m : ℕ × ℕ). m.1) (cond b ((y, s) ∷ filter (λ (m : ℕ × ℕ). m.0 == x) (map {A = ℕ} {B = ℕ × ℕ}
    (λ s. (y, s)) ss)) (filter (λ (m : ℕ × ℕ). m.0 == x) (map {A = ℕ} {B = ℕ × ℕ} (λ s. (y, s)) ss)))) e ∙ pairs_other x y ss e

marked_both : (x : ℕ) (ks ms : List (ℕ × ℕ)) → marked x (ks ++ ms) ≡ marked x ks ++ marked x ms
marked_both x ks ms = ap (λ ls. map (λ (m : ℕ × ℕ). m.1) ls) (filter-append (λ (m : ℕ × ℕ). m.0 == x) ks ms)
    ∙ map-append (λ (m : ℕ × ℕ). m.1) (filter (λ (m : ℕ × ℕ). m.0 == x) ks) (filter (λ (m : ℕ × ℕ). m.0 == x) ms)

-- the includes that stay, of the object that is used so
abbrev Stays : commit.Plan → ℕ → Option Used → List ℕ
Stays p x None = []
Stays p x (Some u) = filter (λ s. not (is_marked u.x s p)) u.joins

stays_left : (p : commit.Plan) (x : ℕ) (us : List Used) → AreApart us → marked x (flat_map (joins_left p) us) ≡ Stays p x (used_at x us)
stays_left p x [] apart = refl
stays_left p x (u ∷ us) apart = marked_both x (joins_left p u) (flat_map (joins_left p) us) ∙ by (u.x == x) refl (stays_left p x us apart.1)
  where
    by : (b : Bool) → (u.x == x) ≡ b → marked x (flat_map (joins_left p) us) ≡ Stays p x (used_at x us)
        → marked x (joins_left p u) ++ marked x (flat_map (joins_left p) us) ≡ Stays p x (cond b (Some u) (used_at x us))
    by true e ih =
        let same : u.x ≡ x = test_is u.x x e in
        (λ i. subst (λ y. marked y (joins_left p u) ≡ filter (λ s. not (is_marked u.x s p)) u.joins) same (pairs_own u.x
        (filter (λ s. not (is_marked u.x s p)) u.joins)) i ++ (ih ∙ ap (Stays p x) (ap (λ y. used_at y us) (sym same) ∙ apart.0)) i)
        ∙ append-nil (filter (λ s. not (is_marked u.x s p)) u.joins)
    by false e ih = (λ i. pairs_other x u.x (filter (λ s. not (is_marked u.x s p)) u.joins) e i ++ ih i)

-- a Confirm of a plan whose prepare step has ended says what that found
pub confirm_says : (x : ℕ) (S : State) (t : ℕ) (p : commit.Plan) → SeesConfirming x S t p
    → SaysMarks x (S.plan t) (S.got t) (map {A = Used} {B = ℕ × ℕ} (λ u. (u.x, u.grant)) p.used) p.excluded (included_of p)
confirm_says x S t p sees = record {
  marks = λ s. sees.marks s ∙ formula s (bool_cases (target (plan_at x p) s)) ∙ ap (λ g. target g s && not (S.got t s)) (sym sees.plan);
  joins = stays_left p x p.used sees.tidy.apart ∙ stays (used_at x p.used) refl
      ∙ ap (λ (g : disk.Plan). filter (S.got t) g.joins) (sym sees.plan);
  distinct = subst AreDistinct (sym (stays_left p x p.used sees.tidy.apart)) (distinct (used_at x p.used) refl);
  granted = λ s on. granted (used_at x p.used) refl s (ap (λ g. target g s) (sym sees.plan) ∙ on);
}
  where
    formula : (s : ℕ) → (target (plan_at x p) s ≡ true) ⊎ (target (plan_at x p) s ≡ false) →
        (target (plan_at x p) s && not (order.has p.prepared s)) ≡ (target (plan_at x p) s && not (S.got t s))
    formula s (inl on) = ap (λ b. target (plan_at x p) s && not b) (sym (sees.got s on))
    formula s (inr off) = ap (λ b. b && not (order.has p.prepared s)) off ∙ ap (λ b. b && not (S.got t s)) (sym off)

    -- among the includes, who isn't marked said Yes
    same_filter : (f g : ℕ → Bool) (ns : List ℕ) → ((n : ℕ) → order.has ns n ≡ true → f n ≡ g n) → filter f ns ≡ filter g ns
    same_filter f g [] e = refl
    same_filter f g (n ∷ ns) e = (λ i. cond (e n (or_left (n == n) (order.has ns n) (test_same n)) i) (n ∷ same_filter f g ns
        (λ m h. e m (or_right (n == m) (order.has ns m) h)) i) (same_filter f g ns (λ m h. e m (or_right (n == m) (order.has ns m) h)) i))

    stays : (o : Option Used) → used_at x p.used ≡ o → Stays p x o ≡ filter (S.got t) (plan_by o (changed_of x p)).joins
    stays None e = refl
    stays (Some u) e = same_filter (λ s. not (is_marked u.x s p)) (S.got t) u.joins (λ s j. unmarked s j)
      where
        there : Uses u p.used × (u.x ≡ x)
        there = used_there x p.used u e

        flips : (b c : Bool) → b ≡ true → not (b && not c) ≡ c
        flips true true h = refl
        flips true false h = refl
        flips false c h = absurd (cc h)

        unmarked : (s : ℕ) → order.has u.joins s ≡ true → not (is_marked u.x s p) ≡ S.got t s
        unmarked s j =
            let on : target (plan_at x p) s ≡ true = ap (λ o. target (plan_by o (changed_of x p)) s) e
            ∙ joined (changed_of x p) (has_same s u.joins ∙ j) in
            ap (λ y. not (is_marked y s p)) there.1 ∙ ap not (sees.marks s) ∙ flips (target (plan_at x p) s) (order.has p.prepared s) on
            ∙ sym (sees.got s on)
          where
            joined : (c : Option ObjectState) → words.has s u.joins ≡ true → target (plan_by (Some u) c) s ≡ true
            joined None h = h
            joined (Some c) h = or_right (words.has s u.stores) (words.has s u.joins) h

    distinct : (o : Option Used) → used_at x p.used ≡ o → AreDistinct (Stays p x o)
    distinct None e = tt
    distinct (Some u) e = filter_distinct (λ s. not (is_marked u.x s p)) u.joins (sees.tidy.distinct u (used_there x p.used u e).0)

    grants : (us : List Used) (u : Used) → Uses u us → u.x ≡ x → names_grant x (map {A = Used} {B = ℕ × ℕ} (λ u. (u.x, u.grant)) us) ≡ true
    grants [] u uses is = absurd uses
    grants (v ∷ vs) u (inl same) is = or_left (v.x == x) (names_grant x (map {A = Used} {B = ℕ × ℕ} (λ u. (u.x, u.grant)) vs))
        (ap (λ (w : Used). w.x == x) same ∙ ap (λ n. n == x) is ∙ test_same x)
    grants (v ∷ vs) u (inr more) is =
        or_right (v.x == x) (names_grant x (map {A = Used} {B = ℕ × ℕ} (λ u. (u.x, u.grant)) vs)) (grants vs u more is)

    granted : (o : Option Used) → used_at x p.used ≡ o → (s : ℕ) → target (plan_at x p) s ≡ true →
        names_grant x (map {A = Used} {B = ℕ × ℕ} (λ u. (u.x, u.grant)) p.used) ≡ true
    granted None e s on = absurd (cc (sym (ap (λ o. target (plan_by o (changed_of x p)) s) e) ∙ on))
    granted (Some u) e s on = let f = used_there x p.used u e in grants p.used u f.0 f.1
