-- The tests that pass for no more than what is so at naming.
use Rattle.arj_law_parts.proofs.Words
use Words.{◌≡◌, ◌⊎◌, ◌∙◌, ◌≤◌, ◌<◌, ◌+◌, ◌*◌, ◌==◌, ◌&&◌, ◌||◌, ℕ, Bool, true, false, Option, Some, None, nat_lt, refl, sym, ap, subst, inl}
use Words.{inr, ⊎_elim, arith, and_parts, or_cases, Binding, Uid, is_on, Disk, Named, Naming, Parts, at_number, binding_number}
use Rattle.arj_law_lock_view.proofs.Terms.{some_is, PassesNaming, PassesNode, Tests}

lt_is : (a b : ℕ) → a < b → nat_lt a b ≡ true
lt_is a b h = grind (arith, h)

is_lt : (a b : ℕ) → nat_lt a b ≡ true → a < b
is_lt a b h = grind (arith, h)

first : {a : Bool} (b : Bool) → a ≡ true → (a || b) ≡ true
first b on = ap (λ z. z || b) on

second : (a : Bool) {b : Bool} → b ≡ true → (a || b) ≡ true
second true on = refl
second false on = on

abbrev past_at : ℕ → Option Binding → Bool
past_at v None = false
past_at v (Some b) = nat_lt v (binding_number b + 1)

abbrev past_in : ℕ → Option Named → Bool
past_in v None = false
past_in v (Some o) = past_at v o.recorded

abbrev asked_in : Uid → Naming → Option Named → Bool
asked_in u n None = false
asked_in u n (Some o) = is_on o.asked u || is_on n.told u

abbrev pub exact : ℕ → Naming → Tests
exact inc n = record {
  made = λ v. nat_lt v (n.inc * 4294967296 + n.count + 1);
  past = λ x v. nat_lt v (n.inc * 4294967296) || past_in v (at_number x n.objects);
  asked = λ x u i. nat_lt i n.inc || ((i == n.inc) && asked_in u n (at_number x n.objects));
  low = λ i. nat_lt i (inc + 1);
  listed = λ x v s. true;
}

pub exact_zero : (inc : ℕ) (n : Naming) → (let T = exact inc n in T.made 0) ≡ true
exact_zero inc n = lt_is 0 (n.inc * 4294967296 + n.count + 1) (omega arith)

pub exact_down : (inc : ℕ) (n : Naming) (x v w : ℕ) → w ≤ v → (let T = exact inc n in T.past x v) ≡ true →
    (let T = exact inc n in T.past x w) ≡ true
exact_down inc n x v w le on = ⊎_elim (λ low. first (past_in w (at_number x n.objects)) (lt_is w (n.inc * 4294967296)
    (less w v (n.inc * 4294967296) le (is_lt v (n.inc * 4294967296) low)))) (λ at. second (nat_lt w (n.inc * 4294967296))
    (by (at_number x n.objects) at)) (or_cases (nat_lt v (n.inc * 4294967296)) (past_in v (at_number x n.objects)) on)
  where
    less : (a b c : ℕ) → a ≤ b → b < c → a < c
    less a b c i j = omega (arith, i, j)

    of : (q : Option Binding) → past_at v q ≡ true → past_at w q ≡ true
    of None h = absurd (let no_way : false ≡ true = h in cc no_way)
    of (Some b) h = lt_is w (binding_number b + 1) (less w v (binding_number b + 1) le (is_lt v (binding_number b + 1) h))

    by : (o : Option Named) → past_in v o ≡ true → past_in w o ≡ true
    by None h = absurd (let no_way : false ≡ true = h in cc no_way)
    by (Some o) h = of o.recorded h

exact_naming : (inc : ℕ) (n : Naming) → PassesNaming (exact inc n) n
exact_naming inc n = record {
  made = λ v le. lt_is v (n.inc * 4294967296 + n.count + 1) (up v (n.inc * 4294967296 + n.count) le);
  objects = λ x o at. record {
    recorded = λ b v is le. second (nat_lt v (n.inc * 4294967296))
        (ap (past_in v) at ∙ ap (past_at v) is ∙ lt_is v (binding_number b + 1) (up v (binding_number b) le));
    asked = λ u on. second (nat_lt n.inc n.inc) ((λ i. same n.inc i && asked_in u n (at i)) ∙ on);
  };
}
  where
    up : (a b : ℕ) → a ≤ b → a < b + 1
    up a b le = omega (arith, le)

    same : (a : ℕ) → (a == a) ≡ true
    same a = grind arith

pub exact_passes : (k : ℕ) (d : Disk) (t : Parts) (n : Naming) → t.naming ≡ Some n → n.inc ≡ d.inc →
    PassesNode (exact d.inc n) (record { number = k; disk = d; live = Some t })
exact_passes k d t n at same = record {
  low = λ i le. lt_is i (d.inc + 1) (up i d.inc le);
  before = record {
    made = λ v lt. lt_is v (n.inc * 4294967296 + n.count + 1) (below v d.inc n.inc n.count lt same);
    past =
        λ x v lt. first (past_in v (at_number x n.objects)) (lt_is v (n.inc * 4294967296) (subst (λ i. v < i * 4294967296) (sym same) lt));
    asked = λ x u i lt. first ((i == n.inc) && asked_in u n (at_number x n.objects)) (lt_is i n.inc (subst (λ j. i < j) (sym same) lt));
    listed = λ x v s lt. refl;
  };
  live = λ m is. subst (PassesNaming (exact d.inc n)) (some_is (sym at ∙ is)) (exact_naming d.inc n);
  lists = λ x v s. refl;
}
  where
    up : (a b : ℕ) → a ≤ b → a < b + 1
    up a b le = omega (arith, le)

    below : (v i j c : ℕ) → v < i * 4294967296 → j ≡ i → v < j * 4294967296 + c + 1
    below v i j c lt e = omega (arith, lt, e)

-- what passes is so
pub exact_made : (inc : ℕ) (n : Naming) (v : ℕ) → (let T = exact inc n in T.made v) ≡ true → v ≤ n.inc * 4294967296 + n.count
exact_made inc n v on = down v (n.inc * 4294967296 + n.count) (is_lt v (n.inc * 4294967296 + n.count + 1) on)
  where
    down : (a b : ℕ) → a < b + 1 → a ≤ b
    down a b lt = omega (arith, lt)

pub exact_low : (inc : ℕ) (n : Naming) (i : ℕ) → (let T = exact inc n in T.low i) ≡ true → i ≤ inc
exact_low inc n i on = down i inc (is_lt i (inc + 1) on)
  where
    down : (a b : ℕ) → a < b + 1 → a ≤ b
    down a b lt = omega (arith, lt)

pub exact_past : (inc : ℕ) (n : Naming) (x v : ℕ) (o : Named) → at_number x n.objects ≡ Some o →
    (let T = exact inc n in T.past x v) ≡ true → (v < n.inc * 4294967296) ⊎ ((b : Binding) × (o.recorded ≡ Some b) × (v ≤ binding_number b))
exact_past inc n x v o at on = ⊎_elim (λ low. inl (is_lt v (n.inc * 4294967296) low)) (λ here. inr
    (by o.recorded refl (sym (ap (past_in v) at) ∙ here))) (or_cases (nat_lt v (n.inc * 4294967296)) (past_in v (at_number x n.objects)) on)
  where
    down : (a b : ℕ) → a < b + 1 → a ≤ b
    down a b lt = omega (arith, lt)

    by : (q : Option Binding) → o.recorded ≡ q → past_at v q ≡ true → (b : Binding) × (o.recorded ≡ Some b) × (v ≤ binding_number b)
    by None is h = absurd (let no_way : false ≡ true = h in cc no_way)
    by (Some b) is h = (b, is, down v (binding_number b) (is_lt v (binding_number b + 1) h))

pub exact_asked : (inc : ℕ) (n : Naming) (x : ℕ) (u : Uid) (i : ℕ) (o : Named) → at_number x n.objects ≡ Some o → n.inc ≤ i →
    (let T = exact inc n in T.asked x u i) ≡ true → (is_on o.asked u ≡ true) ⊎ (is_on n.told u ≡ true)
exact_asked inc n x u i o at le on = ⊎_elim (λ low. absurd (not_both i n.inc le (is_lt i n.inc low))) (λ here. or_cases (is_on o.asked u)
    (is_on n.told u) (sym (ap (asked_in u n) at) ∙ (and_parts (i == n.inc) (asked_in u n (at_number x n.objects)) here).1))
    (or_cases (nat_lt i n.inc) ((i == n.inc) && asked_in u n (at_number x n.objects)) on)
  where
    not_both : (a b : ℕ) → b ≤ a → a < b → ⊥
    not_both a b h l = omega (arith, h, l)
