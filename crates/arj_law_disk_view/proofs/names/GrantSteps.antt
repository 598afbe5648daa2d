-- Grants of a root, as the machine has them.
use Rattle.arj_law_parts.proofs.Words
use Words.{◌≡◌, ◌⊎◌, ◌≤◌, ℕ, ◌==◌, ◌&&◌, ◌||◌, List, [], ◌∷◌, Bool, true, false, cond, Option, Some, None, refl, sym, ◌∙◌, ap, subst, inl}
use Words.{inr, ⊎_elim, arith, filter, map, min, Contains, is_some, and_parts, uid_is, uid_same, In as Stands, in_from, in_to, Uid, uid_eq}
use Words.{Used, least_of, Coord, Grant, Root, counts_grant, granted_with, is_grant_of, is_kept_top, least_grant, named_last, objects_in}
use Words.{top_uses, used_of, with_grant, uid_number, number_tells}
use Words.commit
use Rattle.arj_law_disk_view.proofs.Terms
use Terms.{HasPart, Names, Office, retained, State, has, put2, bool_cases, never, or_cases, or_left, or_right, put_cases, put2_rises}
use Terms.{put2_same, put2_true, test_is, test_same, plan_at, plan_by, used_at, HasGrant, NamesGrants, HasLeast, SeesGrants, is_retained}
use Rattle.arj_law_disk.specs.machine.Named.{Roots}
use Rattle.arj_law_disk_view.specs.names.Grants.{GrantsAreRetained, GrantsStay}

-- ---- lists of grants

-- the grant itself, or one that took it up
pub record Taken (g : Grant) (grants : List Grant) : Type 0 where
  pub grant : Grant
  pub there : Stands grant grants
  pub top_is : grant.top ≡ g.top
  pub of : grant.x ≡ g.x
  pub low : grant.least ≤ g.least

min_right : (a b : ℕ) → min a b ≤ b
min_right a b = grind arith

min_left : (a b : ℕ) → min a b ≤ a
min_left a b = grind arith

min_one : (a b : ℕ) → (min a b ≡ a) ⊎ (min a b ≡ b)
min_one a b = grind arith

same_grant : (g h : Grant) → is_grant_of g.top g.x h ≡ true → (h.top ≡ g.top) × (h.x ≡ g.x)
same_grant g h e = let p = and_parts (uid_eq h.top g.top) (h.x == g.x) e in (uid_is h.top g.top p.0, test_is h.x g.x p.1)

pub taken_new : (g : Grant) (gs : List Grant) → Taken g (granted_with g gs)
taken_new g [] = record { grant = g; there = inl refl; top_is = refl; of = refl; low = omega arith }
taken_new g (h ∷ hs) = by (is_grant_of g.top g.x h) refl (taken_new g hs)
  where
    by : (b : Bool) → is_grant_of g.top g.x h ≡ b → Taken g (granted_with g hs) →
        Taken g (cond b (record h { least = min h.least g.least; named = named_last g.named h.named } ∷ hs) (h ∷ granted_with g hs))
    by true e ih = let s = same_grant g h e in record {
      grant = record h { least = min h.least g.least; named = named_last g.named h.named };
      there = inl refl;
      top_is = s.0;
      of = s.1;
      low = min_right h.least g.least;
    }
    by false e ih = record { grant = ih.grant; there = inr ih.there; top_is = ih.top_is; of = ih.of; low = ih.low }

pub taken_old : (g k : Grant) (gs : List Grant) → Stands k gs → Taken k (granted_with g gs)
taken_old g k [] i = absurd i
taken_old g k (h ∷ hs) i = by (is_grant_of g.top g.x h) i (λ j. taken_old g k hs j)
  where
    by : (b : Bool) → Stands k (h ∷ hs) → (Stands k hs → Taken k (granted_with g hs)) →
        Taken k (cond b (record h { least = min h.least g.least; named = named_last g.named h.named } ∷ hs) (h ∷ granted_with g hs))
    by true (inl is) ih = record {
      grant = record h { least = min h.least g.least; named = named_last g.named h.named };
      there = inl refl;
      top_is = ap (λ (z : Grant). z.top) is;
      of = ap (λ (z : Grant). z.x) is;
      low = subst (λ (z : Grant). min h.least g.least ≤ z.least) is (min_left h.least g.least);
    }
    by true (inr j) ih = record { grant = k; there = inr j; top_is = refl; of = refl; low = omega arith }
    by false (inl is) ih = record { grant = k; there = inl is; top_is = refl; of = refl; low = omega arith }
    by false (inr j) ih = let f = ih j in record { grant = f.grant; there = inr f.there; top_is = f.top_is; of = f.of; low = f.low }

-- where a grant of the list comes from: it stood there, it is the new one, or one that took the new one up
pub came_from : (P : Grant → Type 0) (g : Grant) (gs : List Grant) → ((h : Grant) → Stands h gs → P h) → P g → ((h : Grant) → Stands h gs →
    h.top ≡ g.top → h.x ≡ g.x → P (record h { least = min h.least g.least; named = named_last g.named h.named })) → (k : Grant) →
    Stands k (granted_with g gs) → P k
came_from P g [] old new both k (inl is) = subst P is new
came_from P g [] old new both k (inr i) = absurd i
came_from P g (h ∷ hs) old new both k i =
    by (is_grant_of g.top g.x h) refl i (λ j. came_from P g hs (λ z q. old z (inr q)) new (λ z q. both z (inr q)) k j)
  where
    by : (b : Bool) → is_grant_of g.top g.x h ≡ b →
        Stands k (cond b (record h { least = min h.least g.least; named = named_last g.named h.named } ∷ hs) (h ∷ granted_with g hs)) →
        (Stands k (granted_with g hs) → P k) → P k
    by true e (inl is) ih = let s = same_grant g h e in subst P is (both h (inl refl) s.0 s.1)
    by true e (inr j) ih = old k (inr j)
    by false e (inl is) ih = old k (inl is)
    by false e (inr j) ih = ih j

least_with : (x : ℕ) (t : Uid) (i : ℕ) (g : Grant) (gs : List Grant) → HasLeast x t i gs → HasLeast x t i (granted_with g gs)
least_with x t i g gs h = let f = taken_old g h.grant gs (in_from h.grant gs h.there) in
    record {
      grant = f.grant;
      there = in_to f.grant (granted_with g gs) f.there;
      top_is = f.top_is ∙ h.top_is;
      of = f.of ∙ h.of;
      low = omega (arith, f.low, h.low);
    }

-- ---- an answer is taken

module _ (x : ℕ) (root : Uid) (c : Coord) (r : Root) (g : Grant) (A : Office) (s : SeesGrants x root c r A.world.disk A.names)
    (of_root : A.world.disk.root (uid_number g.top) ≡ uid_number root) (plain : A.world.disk.serial (uid_number g.top) ≡ false) where
  abbrev t : ℕ
  t = uid_number g.top

  abbrev Had : ℕ → ℕ → Bool
  Had = put2 (uid_number g.top) g.least true A.names.had

  pub heard : g.x ≡ x →
      SeesGrants x root c (with_grant g r) A.world.disk (record A.names { had = put2 (uid_number g.top) g.least true A.names.had })
  heard same = record {
    own = λ w i is off had. ⊎_elim
        (λ (here : (uid_number w ≡ t) × (i ≡ g.least)). let f = taken_new g r.grants in record {
          grant = f.grant;
          there = in_to f.grant (granted_with g r.grants) f.there;
          top_is = f.top_is ∙ sym (number_tells w g.top here.0);
          of = f.of ∙ same;
          low = omega (arith, f.low, here.1);
        })
        (λ old. least_with x w i g r.grants (s.own w i is off old)) (put2_true t g.least A.names.had (uid_number w) i had);
    least = λ k there is. came_from (λ z. z.x ≡ x → Had (uid_number z.top) z.least ≡ true) g r.grants (λ h i e. put2_rises t g.least
        A.names.had (uid_number h.top) h.least (s.least h (in_to h r.grants i) e)) (λ e. put2_same t g.least A.names.had)
        (λ h i top of e. ⊎_elim (λ low. ap (Had (uid_number h.top)) low
        ∙ put2_rises t g.least A.names.had (uid_number h.top) h.least (s.least h (in_to h r.grants i) e))
        (λ low. ap (Had (uid_number h.top)) low ∙ ap (λ w. Had (uid_number w) g.least) top ∙ put2_same t g.least A.names.had)
        (min_one h.least g.least)) k (in_from k (granted_with g r.grants) there) is;
    kept = λ i serial had. ⊎_elim
        (λ (here : (uid_number root ≡ t) × (i ≡ g.least)). absurd (never serial (ap A.world.disk.serial here.0 ∙ plain)))
        (λ old. let f = s.kept i serial old in
        (f.0, f.1, least_with x f.0 i g r.grants f.2)) (put2_true t g.least A.names.had (uid_number root) i had);
  }

-- ---- a commit names its grants

least_below : (n : ℕ) (ns : List ℕ) → Stands n ns → least_of ns ≤ n
least_below n [] i = absurd i
least_below n (m ∷ []) (inl is) = subst (λ z. m ≤ z) is (omega arith)
least_below n (m ∷ []) (inr i) = absurd i
least_below n (m ∷ k ∷ ks) (inl is) = subst (λ z. min m (least_of (k ∷ ks)) ≤ z) is (min_left m (least_of (k ∷ ks)))
least_below n (m ∷ k ∷ ks) (inr i) = let low = least_below n (k ∷ ks) i in omega (arith, low, min_right m (least_of (k ∷ ks)))

in_kept : (f : Grant → Bool) (g : Grant) (gs : List Grant) → Stands g gs → f g ≡ true →
    Stands g.least (map (λ (z : Grant). z.least) (filter f gs))
in_kept f g [] i on = absurd i
in_kept f g (h ∷ hs) i on = by (f h) refl i (λ j. in_kept f g hs j on)
  where
    by : (b : Bool) → f h ≡ b → Stands g (h ∷ hs) → (Stands g hs → Stands g.least (map (λ (z : Grant). z.least) (filter f hs))) →
        Stands g.least (map (λ (z : Grant). z.least) (cond b (h ∷ filter f hs) (filter f hs)))
    by true e (inl is) ih = inl (ap (λ (z : Grant). z.least) is)
    by true e (inr j) ih = inr (ih j)
    by false e (inl is) ih = absurd (never (ap f is ∙ on) e)
    by false e (inr j) ih = ih j

pub least_grant_low : (x : ℕ) (t w : Uid) (i : ℕ) (r : Root) (c : Coord) → (uid_eq w t || is_retained x c r w) ≡ true →
    HasLeast x w i r.grants → least_grant t x r c ≤ i
least_grant_low x t w i r c counts h =
    let on : counts_grant t x r c h.grant ≡ true = (λ k. ((h.of k) == x)
    && (uid_eq (h.top_is k) t || (is_kept_top (h.top_is k) c && top_uses (h.top_is k) x r c))) ∙ (λ k. test_same x k && counts k) in
    let low = least_below h.grant.least (map (λ (z : Grant). z.least) (filter (counts_grant t x r c) r.grants))
    (in_kept (counts_grant t x r c) h.grant r.grants (in_from h.grant r.grants h.there) on) in
    omega (arith, low, h.low)

-- what is used of the object, and the grant that is named of it
named_of : (x : ℕ) (t : Uid) (r : Root) (c : Coord) (ys : List ℕ) (u : Used) → used_at x (map (used_of t r c) ys) ≡ Some u →
    HasGrant x (least_grant t x r c) (map {A = Used} {B = ℕ × ℕ} (λ v. (v.x, v.grant)) (map (used_of t r c) ys))
named_of x t r c [] u is = absurd (cc is)
named_of x t r c (y ∷ ys) u is = by (y == x) refl is (λ h. named_of x t r c ys u h)
  where
    by : (b : Bool) → (y == x) ≡ b → cond b (Some (used_of t r c y)) (used_at x (map (used_of t r c) ys)) ≡ Some u →
        (used_at x (map (used_of t r c) ys) ≡ Some u →
        HasGrant x (least_grant t x r c) (map {A = Used} {B = ℕ × ℕ} (λ v. (v.x, v.grant)) (map (used_of t r c) ys)))
        → HasGrant x (least_grant t x r c) (map {A = Used} {B = ℕ × ℕ} (λ v. (v.x, v.grant)) (map (used_of t r c) (y ∷ ys)))
    by true e h ih = let same : y ≡ x = test_is y x e in inl (λ k. (same k, least_grant t (same k) r c))
    by false e h ih = inr (ih h)

module _ (x : ℕ) (root t : Uid) (c : Coord) (r : Root) (p : commit.Plan) (S : State) (N : Names) (roots : Roots S)
    (s : SeesGrants x root c r S N) (of_root : S.root (uid_number t) ≡ uid_number root) (plain : S.serial (uid_number t) ≡ false)
    (used : p.used ≡ map (used_of t r c) (objects_in t r c)) (planned : S.plan (uid_number t) ≡ plan_at x p) where
  own_low : (i : ℕ) → N.had (uid_number t) i ≡ true → least_grant t x r c ≤ i
  own_low i had = least_grant_low x t t i r c (or_left (uid_eq t t) (is_retained x c r t) (uid_same t)) (s.own t i of_root plain had)

  root_low : (i : ℕ) → N.had (S.root (uid_number t)) i ≡ true → least_grant t x r c ≤ i
  root_low i had = ⊎_elim
      (λ serial. let f = s.kept i serial (ap (λ n. N.had n i) (sym of_root) ∙ had) in
      least_grant_low x t f.0 i r c (or_right (uid_eq f.0 t) (is_retained x c r f.0) f.1) f.2)
      (λ single. own_low i (ap (λ n. N.had n i) (sym (roots.plain (uid_number t) (ap S.serial of_root ∙ single))) ∙ had))
      (bool_cases (S.serial (uid_number root)))

  pub named : NamesGrants x S N (uid_number t) (map {A = Used} {B = ℕ × ℕ} (λ u. (u.x, u.grant)) p.used)
  named part i had = (least_grant t x r c, has_grant (used_at x p.used) refl, ⊎_elim (own_low i) (root_low i) had)
    where
      none : used_at x p.used ≡ None → HasPart (plan_at x p) → ⊥
      none e (inl wrote) = never wrote (ap (λ o. is_some (let q = plan_by o (commit.changed_of x p) in q.writes)) e)
      none e (inr (s, on)) = never on (ap (λ o. has s (let q = plan_by o (commit.changed_of x p) in q.joins)) e)

      has_grant : (o : Option Used) → used_at x p.used ≡ o →
          HasGrant x (least_grant t x r c) (map {A = Used} {B = ℕ × ℕ} (λ u. (u.x, u.grant)) p.used)
      has_grant None e = absurd (none e (subst HasPart planned part))
      has_grant (Some u) e = subst (λ us. HasGrant x (least_grant t x r c) (map {A = Used} {B = ℕ × ℕ} (λ v. (v.x, v.grant)) us)) (sym used)
          (named_of x t r c (objects_in t r c) u (ap (used_at x) (sym used) ∙ e))

-- ---- decisions

least_same : (x : ℕ) (t : Uid) (i : ℕ) (gs hs : List Grant) → hs ≡ gs → HasLeast x t i gs → HasLeast x t i hs
least_same x t i gs hs same h = subst (HasLeast x t i) (sym same) h

pub grants_stay : GrantsStay
grants_stay x root c d r q S V N s same stays roots serials = record {
  own = λ t i is off had. least_same x t i r.grants q.grants same
      (s.own t i (ap (λ f. f (uid_number t)) (sym roots) ∙ is) (ap (λ f. f (uid_number t)) (sym serials) ∙ off) had);
  least = λ g there is. s.least g (subst (λ gs. Contains gs g) same there) is;
  kept = λ i serial had. let f = s.kept i (ap (λ h. h (uid_number root)) (sym serials) ∙ serial) had in
      (f.0, stays f.0 f.1, least_same x f.0 i r.grants q.grants same f.2);
}

pub grants_are_retained : GrantsAreRetained
grants_are_retained x root t c d r q S V N s same stays roots serials of_root plain serial kept = record {
  own = λ w i is off had. least_same x w i r.grants q.grants same (s.own w i (ap (λ f. f (uid_number w)) (sym roots) ∙ is)
      (ap (λ f. f (uid_number w)) (sym serials) ∙ off) (unmoved w i (ap (λ f. f (uid_number w)) (sym serials) ∙ off) had));
  least = λ g there is. rises g (s.least g (subst (λ gs. Contains gs g) same there) is);
  kept = λ i on had. by i (put_cases (λ f. f i ≡ true → (N.had (S.root (uid_number t)) i ≡ true) ⊎ (N.had (uid_number t) i ≡ true))
      (S.root (uid_number t)) (λ k. N.had (S.root (uid_number t)) k || N.had (uid_number t) k) N.had (uid_number root)
      (λ e h. or_cases (N.had (S.root (uid_number t)) i) (N.had (uid_number t) i) h)
      (λ other h. absurd (never (ap (λ z. uid_number root == z) of_root ∙ test_same (uid_number root)) other)) had);
}
  where
    unmoved : (w : Uid) (i : ℕ) → S.serial (uid_number w) ≡ false → (let M = retained S (uid_number t) N in M.had (uid_number w) i) ≡ true →
        N.had (uid_number w) i ≡ true
    unmoved w i off = put_cases (λ f. f i ≡ true → N.had (uid_number w) i ≡ true) (S.root (uid_number t))
        (λ k. N.had (S.root (uid_number t)) k || N.had (uid_number t) k) N.had (uid_number w)
        (λ e h. absurd (never (ap S.serial (e ∙ of_root) ∙ serial) off)) (λ other h. h)

    rises : (g : Grant) → N.had (uid_number g.top) g.least ≡ true →
        (let M = retained S (uid_number t) N in M.had (uid_number g.top) g.least) ≡ true
    rises g h = put_cases (λ f. f g.least ≡ true) (S.root (uid_number t)) (λ k. N.had (S.root (uid_number t)) k || N.had (uid_number t) k)
        N.had (uid_number g.top)
        (λ e. or_left (N.had (S.root (uid_number t)) g.least) (N.had (uid_number t) g.least) (ap (λ n. N.had n g.least) (sym e) ∙ h))
        (λ other. h)

    by : (i : ℕ) → (N.had (S.root (uid_number t)) i ≡ true) ⊎ (N.had (uid_number t) i ≡ true) →
        (w : Uid) × (is_retained x d q w ≡ true) × HasLeast x w i q.grants
    by i (inl old) = let f = s.kept i serial (ap (λ n. N.had n i) (sym of_root) ∙ old) in
        (f.0, stays f.0 f.1, least_same x f.0 i r.grants q.grants same f.2)
    by i (inr own) = (t, kept, least_same x t i r.grants q.grants same (s.own t i of_root plain own))
