-- A look at the objects that an action has touched finds what a look at all finds, and its end at these alone is one at all.
use Rattle.std.proofs.Common.{◌≡◌, ◌∙◌, ◌||◌, ◌⊎◌, inl, inr, ℕ, Bool, true, false, cond, List, [], ◌∷◌, refl, sym, ap, subst, Some, None}
use Rattle.std.proofs.Math.Logic.{⊎_elim}
use Rattle.std.specs.Prelude.{Option, map, option_map}
use Rattle.std.specs.BTreeMap.{is_at}
use Rattle.std.specs.Cmp.{both_ways, Equal-is, eq_by_cmp_equiv, nat_cmp_total}
use Rattle.std.specs.List.{AllByRecursion, flat_map, list_any}
use Rattle.std.specs.List.Sorted.{IsStrictlySortedBy}
use Rattle.std.specs.Map.{keys_of}
use Rattle.std.specs.Ordering.{is_eq, nat_cmp, ordering_reverse}
use Rattle.std.specs.declared.cmp.Ordering.{Ordering}
use Rattle.std.specs.declared.cmp.Ordering.TheVariants.{Less, Equal, Greater}
use Rattle.std.proofs.lemmas.Cmp.{tied_itself}
use Rattle.std.proofs.lemmas.Map.{lookup-none}
use Rattle.std.proofs.lemmas.Map.Entries.{none_past_head}
use Rattle.std.proofs.lemmas.Map.Keys.{IsDistinct-from_sorted, sorted_head, sorted_tail}
use Rattle.std.proofs.lemmas.Map.Lookups.{exact_unsigned}
use Rattle.std.proofs.lemmas.Map.Made.{lookup-map_values}
use Rattle.arj_base.specs.Rows.{is_on}
use Rattle.arj_base.specs.declared.uid.Uid.{Uid}
use Rattle.arj_naming.proofs.Listed.{on_append}
use Rattle.arj_protocol.specs.Named.{Named}
use Rattle.arj_protocol.specs.Order.{at_number, each}
use Rattle.arj_protocol.specs.Server.{row_top}
use Rattle.arj_naming.specs.Touched.{is_in, AreTouched, IsApart, test_at, any_of, changed_at}

pub or_true : (b : Bool) → (b || true) ≡ true
or_true true = refl
or_true false = refl

pub itself : (x : ℕ) → nat_cmp x x ≡ Equal
itself x = tied_itself nat_cmp_total x

pub tied : (x y : ℕ) → is_eq (nat_cmp x y) ≡ true → x ≡ y
tied x y is = exact_unsigned x y ((Equal-is (nat_cmp x y)).0 is)

turned : (x y : ℕ) → is_eq (nat_cmp x y) ≡ is_eq (nat_cmp y x)
turned x y = ap is_eq (nat_cmp_total.antisymm x y) ∙ by (nat_cmp y x)
  where
    by : (o : Ordering) → is_eq (ordering_reverse o) ≡ is_eq o
    by Less = refl
    by Equal = refl
    by Greater = refl

-- ---- what is found

pub any_here : (t : ℕ → Bool) (xs : List ℕ) (x : ℕ) → is_in xs x ≡ true → t x ≡ true → list_any t xs ≡ true
any_here t [] x among passes = absurd (cc among)
any_here t (y ∷ ys) x among passes = by (is_eq (nat_cmp x y)) refl among (any_here t ys x)
  where
    by : (b : Bool) → is_eq (nat_cmp x y) ≡ b → (b || is_in ys x) ≡ true → (is_in ys x ≡ true → t x ≡ true → list_any t ys ≡ true) →
        list_any t (y ∷ ys) ≡ true
    by true is on rest = let here : t y ≡ true = subst (λ k. t k ≡ true) (tied x y is) passes in rw here refl
    by false is on rest = let more : list_any t ys ≡ true = rest on passes in rw more (or_true (t y))

pub any_where : (t : ℕ → Bool) (xs : List ℕ) → list_any t xs ≡ true → (x : ℕ) × (t x ≡ true)
any_where t [] passes = absurd (cc passes)
any_where t (y ∷ ys) passes = by (t y) refl passes (any_where t ys)
  where
    by : (b : Bool) → t y ≡ b → (b || list_any t ys) ≡ true → (list_any t ys ≡ true → (x : ℕ) × (t x ≡ true)) → (x : ℕ) × (t x ≡ true)
    by true is on rest = (y, is)
    by false is on rest = rest on

pub looked_any : (t : Named → Bool) (x : ℕ) (m : List (ℕ × Named)) → test_at t (at_number x m) ≡ true →
    list_any (λ (e : ℕ × Named). t e.1) m ≡ true
looked_any t x [] passes = absurd (cc passes)
looked_any t x (f ∷ m) passes = by (is_eq (nat_cmp x f.0)) (looked_any t x m) passes
  where
    by : (b : Bool) → (test_at t (at_number x m) ≡ true → list_any (λ (e : ℕ × Named). t e.1) m ≡ true) →
        test_at t (cond b (Some f.1) (at_number x m)) ≡ true → list_any (λ (e : ℕ × Named). t e.1) (f ∷ m) ≡ true
    by true rest on = rw on refl
    by false rest on = let more : list_any (λ (e : ℕ × Named). t e.1) m ≡ true = rest on in rw more (or_true (t f.1))

-- no later entry has the key of the first
no_more : (x : ℕ) (f : ℕ × Named) (m : List (ℕ × Named)) → IsStrictlySortedBy nat_cmp (keys_of (f ∷ m)) → is_eq (nat_cmp x f.0) ≡ true →
    at_number x m ≡ None
no_more x f m sorted is =
    lookup-none (is_at (nat_cmp x)) m (none_past_head (eq_by_cmp_equiv nat_cmp_total) x f m (IsDistinct-from_sorted nat_cmp (keys_of (f ∷ m)) sorted) is)

later : (x : ℕ) (o : Named) (f : ℕ × Named) (m : List (ℕ × Named)) → IsStrictlySortedBy nat_cmp (keys_of (f ∷ m)) → at_number x m ≡ Some o →
    at_number x (f ∷ m) ≡ Some o
later x o f m sorted at = by (is_eq (nat_cmp x f.0)) refl
  where
    by : (b : Bool) → is_eq (nat_cmp x f.0) ≡ b → cond b (Some f.1) (at_number x m) ≡ Some o
    by true is = let never : None ≡ Some o = sym (no_more x f m sorted is) ∙ at in cc
    by false is = at

pub any_looked : (t : Named → Bool) (m : List (ℕ × Named)) → IsStrictlySortedBy nat_cmp (keys_of m) →
    list_any (λ (e : ℕ × Named). t e.1) m ≡ true → (x : ℕ) × (o : Named) × (at_number x m ≡ Some o) × (t o ≡ true)
any_looked t [] sorted passes = absurd (cc passes)
any_looked t (f ∷ m) sorted passes = by (t f.1) refl passes (any_looked t m (sorted_tail nat_cmp f.0 (keys_of m) sorted))
  where
    by : (b : Bool) → t f.1 ≡ b → (b || list_any (λ (e : ℕ × Named). t e.1) m) ≡ true →
        (list_any (λ (e : ℕ × Named). t e.1) m ≡ true → (x : ℕ) × (o : Named) × (at_number x m ≡ Some o) × (t o ≡ true))
        → (x : ℕ) × (o : Named) × (at_number x (f ∷ m) ≡ Some o) × (t o ≡ true)
    by true is on rest = let here : at_number f.0 (f ∷ m) ≡ Some f.1 = rw (itself f.0) refl in (f.0, f.1, here, is)
    by false is on rest = let w = rest on in (w.0, w.1, later w.0 w.1 f m sorted w.2, w.3)

-- a test that no object passes from which an action is apart finds one among all where it finds one among those that it has touched
pub any_touched : (u : Uid) (t : Named → Bool) (m : List (ℕ × Named)) (xs : List ℕ) → IsStrictlySortedBy nat_cmp (keys_of m) →
    AreTouched u m (is_in xs) → ((o : Named) → IsApart u o → t o ≡ false) → any_of t m xs ≡ list_any (λ (e : ℕ × Named). t e.1) m
any_touched u t m xs sorted are fails = both_ways (any_of t m xs) (list_any (λ (e : ℕ × Named). t e.1) m)
    (λ on. let w = any_where (λ x. test_at t (at_number x m)) xs on in looked_any t w.0 m w.1)
    (λ on.
    let w = any_looked t m sorted on in
    let passes : test_at t (at_number w.0 m) ≡ true = rw w.2 w.3 in
    ⊎_elim (λ (apart : IsApart u w.1). let never : true ≡ false =
    sym w.3 ∙ fails w.1 apart in cc) (λ (among : is_in xs w.0 ≡ true). any_here (λ x. test_at t (at_number x m)) xs w.0 among passes) (are w.0 w.1 w.2))

-- ---- what is changed

none_in : (q x : ℕ) (xs : List ℕ) → nat_cmp q x ≡ Equal → AllByRecursion (λ y. nat_cmp x y ≡ Less) xs → is_in xs q ≡ false
none_in q x [] is all = refl
none_in q x (y ∷ ys) is all = (λ i. is_eq ((nat_cmp_total.congr q x y is ∙ all.0) i) || is_in ys q) ∙ none_in q x ys is all.1

module _ (f : Named → Named) where
  -- once the first of these is changed, the others are left
  pub next_changed : (x : ℕ) (xs : List ℕ) (m es : List (ℕ × Named)) → IsStrictlySortedBy nat_cmp (x ∷ xs) →
      ((q : ℕ) → at_number q es ≡ changed_at f (is_eq (nat_cmp x q)) (at_number q m))
      → (q : ℕ) → changed_at f (is_in xs q) (at_number q es) ≡ changed_at f (is_in (x ∷ xs) q) (at_number q m)
  next_changed x xs m es sorted at q = by (is_eq (nat_cmp q x)) refl
    where
      by : (b : Bool) → is_eq (nat_cmp q x) ≡ b →
          changed_at f (is_in xs q) (at_number q es) ≡ changed_at f (b || is_in xs q) (at_number q m)
      by true is = (λ i. changed_at f (none_in q x xs ((Equal-is (nat_cmp q x)).0 is) (sorted_head nat_cmp x xs sorted) i) (at_number q es)) ∙ (at q ∙ (λ i. changed_at f ((turned x q ∙ is) i) (at_number q m)))
      by false is = λ i. changed_at f (is_in xs q) ((at q ∙ (λ j. changed_at f ((turned x q ∙ is) j) (at_number q m))) i)

  -- the others stay as they are, so a change of those that the action has touched is one of all
  pub touched_all : (u : Uid) → ((o : Named) → IsApart u o → f o ≡ o) → (m : List (ℕ × Named)) (among : ℕ → Bool) → AreTouched u m among →
      (q : ℕ) → changed_at f (among q) (at_number q m) ≡ option_map f (at_number q m)
  touched_all u idle m among are q = by (among q) refl (at_number q m) refl
    where
      by : (b : Bool) → among q ≡ b → (o : Option Named) → at_number q m ≡ o → changed_at f b o ≡ option_map f o
      by true is o at = refl
      by false is None at = refl
      by false is (Some o) at =
          ⊎_elim (λ (apart : IsApart u o). ap (λ n. Some n) (sym (idle o apart))) (λ (on : among q ≡ true). let never : true ≡ false =
          sym on ∙ is in cc) (are q o at)

  pub all_changed : (m es : List (ℕ × Named)) → keys_of es ≡ keys_of m → IsStrictlySortedBy nat_cmp (keys_of m) →
      ((q : ℕ) → at_number q es ≡ option_map f (at_number q m)) → es ≡ each (λ x. f) m
  all_changed [] [] keys sorted at = refl
  all_changed [] (e ∷ es) keys sorted at = cc
  all_changed (d ∷ m) [] keys sorted at = cc
  all_changed (d ∷ m) (e ∷ es) keys sorted at =
      let key : e.0 ≡ d.0 = cc in
      let rest : keys_of es ≡ keys_of m = cc in
      let es_sorted : IsStrictlySortedBy nat_cmp (keys_of (e ∷ es)) = subst (IsStrictlySortedBy nat_cmp) (sym keys) sorted in
      let new_here : at_number d.0 (e ∷ es) ≡ Some e.1 =
      (λ i. cond (is_eq (nat_cmp d.0 (key i))) (Some e.1) (at_number d.0 es)) ∙ (λ i. cond (is_eq (itself d.0 i)) (Some e.1) (at_number d.0 es)) in
      let old_here : at_number d.0 (d ∷ m) ≡ Some d.1 = λ i. cond (is_eq (itself d.0 i)) (Some d.1) (at_number d.0 m) in
      let both : Some e.1 ≡ Some (f d.1) = sym new_here ∙ (at d.0 ∙ ap (option_map f) old_here) in
      let value : e.1 ≡ f d.1 = cc in
      let left : (q : ℕ) → at_number q es ≡ option_map f (at_number q m) =
      λ q. tail d e m es key sorted es_sorted q (at q) (is_eq (nat_cmp q d.0)) refl in
      λ i. (key i, value i) ∷ all_changed m es rest (sorted_tail nat_cmp d.0 (keys_of m) sorted) left i
    where
      tail : (d e : ℕ × Named) (m es : List (ℕ × Named)) → e.0 ≡ d.0 → IsStrictlySortedBy nat_cmp (keys_of (d ∷ m)) →
          IsStrictlySortedBy nat_cmp (keys_of (e ∷ es)) → (q : ℕ) → at_number q (e ∷ es) ≡ option_map f (at_number q (d ∷ m))
          → (b : Bool) → is_eq (nat_cmp q d.0) ≡ b → at_number q es ≡ option_map f (at_number q m)
      tail d e m es key sorted es_sorted q at true is =
          no_more q e es es_sorted ((λ i. is_eq (nat_cmp q (key i))) ∙ is) ∙ ap (option_map f) (sym (no_more q d m sorted is))
      tail d e m es key sorted es_sorted q at false is =
          (λ i. cond (sym ((λ j. is_eq (nat_cmp q (key j))) ∙ is) i) (Some e.1) (at_number q es)) ∙ (at ∙ (λ i. option_map f (cond (is i) (Some d.1) (at_number q m))))

  -- and those that an action has touched are so afterwards
  pub still_touched : (u : Uid) → ((o : Named) → IsApart u o → IsApart u (f o)) → (m : List (ℕ × Named)) (among : ℕ → Bool) →
      AreTouched u m among → AreTouched u (each (λ x. f) m) among
  still_touched u still m among are x o at = by (at_number x m) refl (sym (lookup-map_values f (is_at (nat_cmp x)) m) ∙ at)
    where
      by : (before : Option Named) → at_number x m ≡ before → option_map f before ≡ Some o → IsApart u o ⊎ (among x ≡ true)
      by None is after = cc
      by (Some p) is after =
          let same : f p ≡ o =
          cc in ⊎_elim (λ (apart : IsApart u p). inl (subst (IsApart u) same (still p apart))) (λ (on : among x ≡ true). inr on) (are x p is)

-- the tops of all holders, object by object
pub tops_of_all : (m : List (ℕ × Named)) (u : Uid) →
    is_on (flat_map (λ (e : ℕ × Named). map row_top e.1.rows) m) u ≡ list_any (λ (e : ℕ × Named). is_on (map row_top e.1.rows) u) m
tops_of_all [] u = refl
tops_of_all (e ∷ m) u =
    on_append (map row_top e.1.rows) (flat_map (λ (f : ℕ × Named). map row_top f.1.rows) m) u ∙ (λ i. is_on (map row_top e.1.rows) u || tops_of_all m u i)
