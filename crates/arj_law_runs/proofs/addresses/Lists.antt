-- What holds of each item of a list, through what is done with lists.
use Rattle.arj_law_parts.proofs.Words
use Words.{◌≡◌, ℕ, zero, suc, List, [], ◌∷◌, ◌++◌, Bool, true, false, cond, filter, map, Option, Some, None, refl, sym, ◌∙◌, ap, subst}
use Words.{⊎_elim, IfSome, is_some, slice_get, slice_set, AllByRecursion, cons_option, filter_map, flat_map, is_eq, match_ordering, nat_cmp}
use Words.{Ordering, Less, Equal, Greater, uid_order, at_number, at_uid, each, number_set, put_number, put_uid, uid_set, with_number}
use Words.{with_uid, without_uid, at_place, set_place, Uid, one_or_two}
use Rattle.arj_law_parts.proofs.parts.Keys.{order_itself}

pub all_append : {A : Type 0} (Q : A → Type 0) (xs ys : List A) → AllByRecursion Q xs → AllByRecursion Q ys → AllByRecursion Q (xs ++ ys)
all_append Q [] ys a b = b
all_append Q (x ∷ xs) ys a b = (a.0, all_append Q xs ys a.1 b)

pub all_filter : {A : Type 0} (Q : A → Type 0) (test : A → Bool) (xs : List A) → AllByRecursion Q xs → AllByRecursion Q (filter test xs)
all_filter Q test [] all = tt
all_filter {A} Q test (x ∷ xs) all = by (test x) (all_filter Q test xs all.1)
  where
    by : (b : Bool) → AllByRecursion Q (filter test xs) → AllByRecursion Q (cond b (x ∷ filter test xs) (filter test xs))
    by true ih = (all.0, ih)
    by false ih = ih

pub all_map : {A B : Type 0} (P : A → Type 0) (Q : B → Type 0) (f : A → B) (xs : List A) → ((x : A) → P x → Q (f x)) → AllByRecursion P xs →
    AllByRecursion Q (map f xs)
all_map P Q f [] to all = tt
all_map P Q f (x ∷ xs) to all = (to x all.0, all_map P Q f xs to all.1)

pub all_some : {A B : Type 0} (P : A → Type 0) (Q : B → Type 0) (f : A → Option B) (xs : List A) → ((x : A) → P x → IfSome (f x) Q) →
    AllByRecursion P xs → AllByRecursion Q (filter_map f xs)
all_some P Q f [] to all = tt
all_some {A} {B} P Q f (x ∷ xs) to all = by (f x) (to x all.0) (all_some P Q f xs to all.1)
  where
    by : (o : Option B) → IfSome o Q → AllByRecursion Q (filter_map f xs) → AllByRecursion Q (cons_option o (filter_map f xs))
    by None its ih = ih
    by (Some b) its ih = (its, ih)

pub all_flat : {A B : Type 0} (P : A → Type 0) (Q : B → Type 0) (f : A → List B) (xs : List A) → ((x : A) → P x → AllByRecursion Q (f x)) →
    AllByRecursion P xs → AllByRecursion Q (flat_map f xs)
all_flat P Q f [] to all = tt
all_flat P Q f (x ∷ xs) to all = all_append Q (f x) (flat_map f xs) (to x all.0) (all_flat P Q f xs to all.1)

pub all_set : {A : Type 0} (Q : A → Type 0) (k : ℕ) (y : A) (xs : List A) → Q y → AllByRecursion Q xs → AllByRecursion Q (set_place k y xs)
all_set Q zero y xs its all = all
all_set {A} Q (suc i) y xs its all = by xs i all
  where
    by : (zs : List A) (j : ℕ) → AllByRecursion Q zs → AllByRecursion Q (slice_set zs j y)
    by [] j a = tt
    by (z ∷ zs) zero a = (its, a.1)
    by (z ∷ zs) (suc j) a = (a.0, by zs j a.1)

pub all_placed : {A : Type 0} (Q : A → Type 0) (k : ℕ) (xs : List A) (a : A) → AllByRecursion Q xs → at_place k xs ≡ Some a → Q a
all_placed {A} Q zero xs a all is = let no_way : ◌≡◌ {A = Option A} None (Some a) = is in cc
all_placed {A} Q (suc i) xs a all is = by xs i all is
  where
    by : (zs : List A) (j : ℕ) → AllByRecursion Q zs → slice_get zs j ≡ Some a → Q a
    by [] j q at = let no_way : ◌≡◌ {A = Option A} None (Some a) = at in cc
    by (z ∷ zs) zero q at = let same : z ≡ a = cc in subst Q same q.0
    by (z ∷ zs) (suc j) q at = by zs j q.1 at

-- ---- sets of numbers

pub all_number : (Q : ℕ → Type 0) (n : ℕ) (ns : List ℕ) → Q n → AllByRecursion Q ns → AllByRecursion Q (with_number n ns)
all_number Q n [] its all = (its, tt)
all_number Q n (m ∷ ms) its all = by (nat_cmp n m) (all_number Q n ms its all.1)
  where
    by : (r : Ordering) → AllByRecursion Q (with_number n ms) →
        AllByRecursion Q (match_ordering r (n ∷ m ∷ ms) (m ∷ ms) (m ∷ with_number n ms))
    by Less ih = (its, all)
    by Equal ih = all
    by Greater ih = (all.0, ih)

pub all_numbers : (Q : ℕ → Type 0) (ns : List ℕ) → AllByRecursion Q ns → AllByRecursion Q (number_set ns)
all_numbers Q [] all = tt
all_numbers Q (n ∷ ns) all = all_number Q n (number_set ns) all.0 (all_numbers Q ns all.1)

-- ---- maps and sets by Uid

pub all_put : {X : Type 0} (Q : Uid × X → Type 0) (u : Uid) (v : X) (m : List (Uid × X)) → ((w : Uid) → Q (w, v)) → AllByRecursion Q m →
    AllByRecursion Q (put_uid u v m)
all_put Q u v [] its all = (its u, tt)
all_put {X} Q u v (e ∷ es) its all = by (uid_order u e.0) (all_put Q u v es its all.1)
  where
    by : (r : Ordering) → AllByRecursion Q (put_uid u v es) →
        AllByRecursion Q (match_ordering r ((u, v) ∷ e ∷ es) ((e.0, v) ∷ es) (e ∷ put_uid u v es))
    by Less ih = (its u, all)
    by Equal ih = (its e.0, all.1)
    by Greater ih = (all.0, ih)

-- a key of which this holds, with a value of which that holds
pub all_key : {X : Type 0} (K : Uid → Type 0) (V : X → Type 0) (u : Uid) (v : X) (m : List (Uid × X)) → K u → V v →
    AllByRecursion (λ (e : Uid × X). K e.0 × V e.1) m → AllByRecursion (λ (e : Uid × X). K e.0 × V e.1) (put_uid u v m)
all_key K V u v [] key its all = ((key, its), tt)
all_key {X} K V u v (e ∷ es) key its all = by (uid_order u e.0) (all_key K V u v es key its all.1)
  where
    by : (r : Ordering) → AllByRecursion (λ (z : Uid × X). K z.0 × V z.1) (put_uid u v es) →
        AllByRecursion (λ (z : Uid × X). K z.0 × V z.1) (match_ordering r ((u, v) ∷ e ∷ es) ((e.0, v) ∷ es) (e ∷ put_uid u v es))
    by Less ih = ((key, its), all)
    by Equal ih = ((all.0.0, its), all.1)
    by Greater ih = (all.0, ih)

pub all_without : {X : Type 0} (Q : Uid × X → Type 0) (u : Uid) (m : List (Uid × X)) → AllByRecursion Q m →
    AllByRecursion Q (without_uid u m)
all_without Q u [] all = tt
all_without {X} Q u (e ∷ es) all = by (uid_order u e.0) (all_without Q u es all.1)
  where
    by : (r : Ordering) → AllByRecursion Q (without_uid u es) → AllByRecursion Q (cond (is_eq r) es (e ∷ without_uid u es))
    by Less ih = (all.0, ih)
    by Equal ih = all.1
    by Greater ih = (all.0, ih)

pub all_at_uid : {X : Type 0} (Q : X → Type 0) (u : Uid) (v : X) (m : List (Uid × X)) → AllByRecursion (λ (e : Uid × X). Q e.1) m →
    at_uid u m ≡ Some v → Q v
all_at_uid {X} Q u v [] all is = let no_way : ◌≡◌ {A = Option X} None (Some v) = is in cc
all_at_uid {X} Q u v (e ∷ es) all is = by (is_eq (uid_order u e.0)) is (all_at_uid Q u v es all.1)
  where
    by : (b : Bool) → cond b (Some e.1) (at_uid u es) ≡ Some v → (at_uid u es ≡ Some v → Q v) → Q v
    by true s ih = let same : e.1 ≡ v = cc in subst Q same all.0
    by false s ih = ih s

pub all_with : (Q : Uid → Type 0) (u : Uid) (us : List Uid) → Q u → AllByRecursion Q us → AllByRecursion Q (with_uid u us)
all_with Q u [] its all = (its, tt)
all_with Q u (w ∷ ws) its all = by (uid_order u w) (all_with Q u ws its all.1)
  where
    by : (r : Ordering) → AllByRecursion Q (with_uid u ws) → AllByRecursion Q (match_ordering r (u ∷ w ∷ ws) (w ∷ ws) (w ∷ with_uid u ws))
    by Less ih = (its, all)
    by Equal ih = all
    by Greater ih = (all.0, ih)

pub all_uids : (Q : Uid → Type 0) (us : List Uid) → AllByRecursion Q us → AllByRecursion Q (uid_set us)
all_uids Q [] all = tt
all_uids Q (u ∷ us) all = all_with Q u (uid_set us) all.0 (all_uids Q us all.1)

-- ---- maps by numbers, with what holds of their keys

pub some_is : {A : Type 0} {a b : A} → Some a ≡ Some b → a ≡ b
some_is {A} {a} {b} is = let k : ◌≡◌ {A = Option A} (Some a) (Some b) = is in cc

pub never : {P : Type 0} {b : Bool} → b ≡ true → b ≡ false → P
never {P} {b} holds fails = let no_way : true ≡ false = sym holds ∙ fails in cc

module _ {X : Type 0} (K : ℕ → Type 0) (P : X → Type 0) where
  abbrev Keyed : List (ℕ × X) → Type 0
  Keyed m = AllByRecursion (λ (e : ℕ × X). K e.0 × P e.1) m

  pub keyed_found : (k : ℕ) (m : List (ℕ × X)) (x : X) → Keyed m → at_number k m ≡ Some x → K k × P x
  keyed_found k [] x all is = let no_way : ◌≡◌ {A = Option X} None (Some x) = is in cc
  keyed_found k (e ∷ es) x all is = by (is_eq (nat_cmp k e.0)) refl is (keyed_found k es x all.1)
    where
      by : (b : Bool) → is_eq (nat_cmp k e.0) ≡ b → cond b (Some e.1) (at_number k es) ≡ Some x → (at_number k es ≡ Some x → K k × P x) →
          K k × P x
      by true at s ih = let same : e.1 ≡ x = some_is s in let key : e.0 ≡ k = ⊎_elim (λ is. is) (λ apart. never at apart.0)
          (one_or_two e.0 k) in (subst K key all.0.0, subst P same all.0.1)
      by false at s ih = ih s

  pub keyed_put : (k : ℕ) (v : X) (m : List (ℕ × X)) → K k → P v → Keyed m → Keyed (put_number k v m)
  keyed_put k v [] key its all = ((key, its), tt)
  keyed_put k v (e ∷ es) key its all = by (nat_cmp k e.0) (keyed_put k v es key its all.1)
    where
      by : (r : Ordering) → Keyed (put_number k v es) → Keyed (match_ordering r ((k, v) ∷ e ∷ es) ((e.0, v) ∷ es) (e ∷ put_number k v es))
      by Less ih = ((key, its), all)
      by Equal ih = ((all.0.0, its), all.1)
      by Greater ih = (all.0, ih)

  pub keyed_each : (f : ℕ → X → X) → ((k : ℕ) (x : X) → P x → P (f k x)) → (m : List (ℕ × X)) → Keyed m → Keyed (each f m)
  keyed_each f step [] all = tt
  keyed_each f step (e ∷ es) all = ((all.0.0, step e.0 e.1 all.0.1), keyed_each f step es all.1)

-- ---- what a map by Uids has

-- each key of a map is found there
pub keys_found : {X : Type 0} (m : List (Uid × X)) → AllByRecursion (λ (e : Uid × X). is_some (at_uid e.0 m) ≡ true) m
keys_found {X} m = by m (λ u found. found)
  where
    itself : (u : Uid) → is_eq (uid_order u u) ≡ true
    itself u = ap is_eq (order_itself u)

    by : (es : List (Uid × X)) → ((u : Uid) → is_some (at_uid u es) ≡ true → is_some (at_uid u m) ≡ true) →
        AllByRecursion (λ (e : Uid × X). is_some (at_uid e.0 m) ≡ true) es
    by [] up = tt
    by (e ∷ es) up = (
      up e.0 (λ i. is_some (cond (itself e.0 i) (Some e.1) (at_uid e.0 es))),
      by es (λ u found. up u (one u (is_eq (uid_order u e.0)) found)),
    )
      where
        one : (u : Uid) (b : Bool) → is_some (at_uid u es) ≡ true → is_some (cond b (Some e.1) (at_uid u es)) ≡ true
        one u true found = refl
        one u false found = found

-- what is found is found after a put
pub found_put : {X : Type 0} (u w : Uid) (v : X) (m : List (Uid × X)) → is_some (at_uid u m) ≡ true →
    is_some (at_uid u (put_uid w v m)) ≡ true
found_put u w v [] found = let no_way : false ≡ true = found in cc
found_put {X} u w v (e ∷ es) found = by (uid_order w e.0) (is_eq (uid_order u e.0)) refl found (found_put u w v es)
  where
    first : (b : Bool) → is_some (at_uid u es) ≡ true → is_some (cond b (Some e.1) (at_uid u es)) ≡ true
    first true h = refl
    first false h = h

    by : (r : Ordering) (b : Bool) → is_eq (uid_order u e.0) ≡ b → is_some (cond b (Some e.1) (at_uid u es)) ≡ true →
        (is_some (at_uid u es) ≡ true → is_some (at_uid u (put_uid w v es)) ≡ true) →
        is_some (at_uid u (match_ordering r ((w, v) ∷ e ∷ es) ((e.0, v) ∷ es) (e ∷ put_uid w v es))) ≡ true
    by Less b is h ih = either (is_eq (uid_order u w)) ((λ i. is_some (cond (is i) (Some e.1) (at_uid u es))) ∙ h)
      where
        either : (c : Bool) → is_some (at_uid u (e ∷ es)) ≡ true → is_some (cond c (Some v) (at_uid u (e ∷ es))) ≡ true
        either true q = refl
        either false q = q
    by Equal true is h ih = λ i. is_some (cond (is i) (Some v) (at_uid u es))
    by Equal false is h ih = (λ i. is_some (cond (is i) (Some v) (at_uid u es))) ∙ h
    by Greater true is h ih = λ i. is_some (cond (is i) (Some e.1) (at_uid u (put_uid w v es)))
    by Greater false is h ih = (λ i. is_some (cond (is i) (Some e.1) (at_uid u (put_uid w v es)))) ∙ ih h
