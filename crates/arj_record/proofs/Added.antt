-- A list with one more record: what stands in it, and that it stays arranged.
use Rattle.std.proofs.Common.{◌≡◌, ℕ, ◌≤◌, ◌<◌, ◌+◌, Bool, true, false, cond, ◌&&◌, ◌==◌, not, nat_lt, List, [], ◌∷◌, ◌++◌, length, take}
use Rattle.std.proofs.Common.{drop, set, get_or, filter, Option, Some, None, zero, suc, refl, sym, ◌∙◌, ap, arith}
use Rattle.std.specs.List.{AllByRecursion}
use Rattle.std.proofs.lemmas.Bool.{ltb-true}
use Rattle.std.proofs.lemmas.Bool.Decides.{nat_tests}
use Rattle.std.proofs.Math.Bool.{and-false}
use Rattle.arj_base.specs.declared.uid.Uid.{Uid}
use Rattle.arj_base.specs.Uid.{uid_eq}
use Rattle.arj_record.specs.declared.record.Record.{Record}
use Rattle.arj_record.specs.Record.{object_of, order_of, is_of, is_like, joined}
use Rattle.arj_record.specs.Records.{added, gathered, forgotten, found, combined, Precedes, IsArranged}
use Rattle.arj_record.proofs.Same.{is_of_same, is_of_other, is_of_order, is_of_joined, is_of_parts, precedes_joined, precedes_to_joined}
use Rattle.arj_base.proofs.Uids.{uid_is, uid_sym}

-- the record at the index takes the new one in
pub joined_here : {V : Type 0} → (rs : List (Record V)) (i : ℕ) (q r : Record V) → i < length rs → q ≡ get_or rs i q → is_like q r ≡ true
    → set rs i (joined q r) ≡ take i rs ++ added r (drop i rs)
joined_here [] i q r lt e like = absurd (omega arith)
joined_here {V} (p ∷ rs) zero q r lt e like =
    let here : is_like p r ≡ true = sym (ap (λ s. is_like s r) e) ∙ like in
    ap (λ s. joined s r ∷ rs) e ∙ sym (ap (λ b. cond b (joined p r ∷ rs) (cond (nat_lt (order_of r) (order_of p)) (r ∷ p ∷ rs) (p ∷ added r rs))) here)
joined_here (p ∷ rs) (suc i) q r lt e like = ap (λ qs. p ∷ qs) (joined_here rs i q r (omega arith) e like)

-- two reads of one place
pub same_item : {A : Type 0} → (xs : List A) (i : ℕ) (a b : A) → i < length xs → a ≡ get_or xs i a → b ≡ get_or xs i b → a ≡ b
same_item [] i a b lt e f = absurd (omega arith)
same_item (x ∷ xs) zero a b lt e f = e ∙ sym f
same_item (x ∷ xs) (suc i) a b lt e f = same_item xs i a b (omega arith) e f

-- the record that was read at the index takes the new one in
pub joined_at : {V : Type 0} → (rs whole : List (Record V)) (i : ℕ) (read here r new : Record V) → i < length rs → read ≡ get_or rs i read →
    here ≡ get_or rs i here → is_like read r ≡ true → new ≡ joined here r
    → take i rs ++ added r (drop i rs) ≡ whole → set rs i new ≡ whole
joined_at rs whole i read here r new lt e f like g h =
    let same : read ≡ here = same_item rs i read here lt e f in
    ap (λ q. set rs i q) g ∙ (joined_here rs i here r lt f (sym (ap (λ q. is_like q r) same) ∙ like) ∙ h)

-- one record more at most
pub length-added : {V : Type 0} → (r : Record V) (rs : List (Record V)) → length (added r rs) ≤ length rs + 1
length-added r [] = omega arith
length-added {V} r (q ∷ qs) = by (is_like q r) (nat_lt (order_of r) (order_of q)) (length-added r qs)
  where
    by : (b c : Bool) → length (added r qs) ≤ length qs + 1 →
        length (cond b (joined q r ∷ qs) (cond c (r ∷ q ∷ qs) (q ∷ added r qs))) ≤ length (q ∷ qs) + 1
    by true c h = omega arith
    by false true h = omega arith
    by false false h = omega arith

-- and never fewer
pub added-length : {V : Type 0} → (r : Record V) (rs : List (Record V)) → length rs ≤ length (added r rs)
added-length r [] = omega arith
added-length {V} r (q ∷ qs) = by (is_like q r) (nat_lt (order_of r) (order_of q)) (added-length r qs)
  where
    by : (b c : Bool) → length qs ≤ length (added r qs) →
        length (q ∷ qs) ≤ length (cond b (joined q r ∷ qs) (cond c (r ∷ q ∷ qs) (q ∷ added r qs)))
    by true c h = omega arith
    by false true h = omega arith
    by false false h = omega arith

pub length-gathered : {V : Type 0} → (items rs : List (Record V)) → length (gathered rs items) ≤ length rs + length items
length-gathered [] rs = omega arith
length-gathered (r ∷ items) rs = omega (arith, length-gathered items (added r rs), length-added r rs)

-- what stands rightly before all records and before the new one does so before all of the longer list
all_added : {V : Type 0} → (s r : Record V) (rs : List (Record V)) → Precedes s r → AllByRecursion (Precedes s) rs →
    AllByRecursion (Precedes s) (added r rs)
all_added s r [] p ps = (p, tt)
all_added s r (q ∷ qs) p ps = by (is_like q r) (nat_lt (order_of r) (order_of q)) (all_added s r qs p ps.1)
  where
    by : (b c : Bool) → AllByRecursion (Precedes s) (added r qs) →
        AllByRecursion (Precedes s) (cond b (joined q r ∷ qs) (cond c (r ∷ q ∷ qs) (q ∷ added r qs)))
    by true c h = (precedes_to_joined s q r ps.0, ps.1)
    by false true h = (p, ps)
    by false false h = (ps.0, h)

all_joined : {V : Type 0} → (q r : Record V) (rs : List (Record V)) → AllByRecursion (Precedes q) rs →
    AllByRecursion (Precedes (joined q r)) rs
all_joined q r [] ps = tt
all_joined q r (s ∷ rs) ps = (precedes_joined q r s ps.0, all_joined q r rs ps.1)

-- a record of a lower order than all
precedes_above : {V : Type 0} → (r s : Record V) → order_of r < order_of s → Precedes r s
precedes_above r s lt = (omega arith, (λ i. no i && uid_eq (object_of r) (object_of s)))
  where
    no : (order_of r == order_of s) ≡ false
    no = grind (arith, nat_tests)

all_above : {V : Type 0} → (r q : Record V) (rs : List (Record V)) → order_of r < order_of q → AllByRecursion (Precedes q) rs →
    AllByRecursion (Precedes r) rs
all_above r q [] lt ps = tt
all_above r q (s ∷ rs) lt ps = (precedes_above r s (omega (arith, ps.0.0)), all_above r q rs lt ps.1)

pub arranged_added : {V : Type 0} → (r : Record V) (rs : List (Record V)) → IsArranged rs → IsArranged (added r rs)
arranged_added r [] p = (tt, tt)
arranged_added {V} r (q ∷ qs) p = by (is_like q r) (nat_lt (order_of r) (order_of q)) (arranged_added r qs p.1) refl refl
  where
    by : (b c : Bool) → IsArranged (added r qs) → is_like q r ≡ b → nat_lt (order_of r) (order_of q) ≡ c →
        IsArranged (cond b (joined q r ∷ qs) (cond c (r ∷ q ∷ qs) (q ∷ added r qs)))
    by true c rest e f = (all_joined q r qs p.0, p.1)
    by false true rest e f =
        let lt : order_of r < order_of q = ltb-true (order_of r) (order_of q) f in ((precedes_above r q lt, all_above r q qs lt p.0), p)
    by false false rest e f =
        let le : order_of q ≤ order_of r = grind (arith, nat_tests) in (all_added q r qs (le, e) p.0, rest)

pub arranged_gathered : {V : Type 0} → (items rs : List (Record V)) → IsArranged rs → IsArranged (gathered rs items)
arranged_gathered [] rs p = p
arranged_gathered (r ∷ items) rs p = arranged_gathered items (added r rs) (arranged_added r rs p)

-- an older record and nothing
pub combined-none : {V : Type 0} → (o : Option (Record V)) → combined o None ≡ o
combined-none None = refl
combined-none (Some r) = refl

-- behind a record of a higher order there is none of this one
pub none_above : {V : Type 0} → (order : ℕ) (x : Uid) (q : Record V) (rs : List (Record V)) → order < order_of q →
    AllByRecursion (Precedes q) rs → found order x rs ≡ None
none_above order x q [] lt ps = refl
none_above order x q (s ∷ rs) lt ps =
    ap (λ b. cond b (Some s) (found order x rs)) (is_of_order order x s (omega (arith, ps.0.0))) ∙ none_above order x q rs lt ps.1

-- what is found after a record was added
pub found-added : {V : Type 0} → (order : ℕ) (x : Uid) (r : Record V) (rs : List (Record V)) → IsArranged rs →
    found order x (added r rs) ≡ combined (found order x rs) (found order x (r ∷ []))
found-added order x r [] p = refl
found-added {V} order x r (q ∷ qs) p = by (is_like q r) (nat_lt (order_of r) (order_of q)) (found-added order x r qs p.1) refl refl
  where
    Both : Bool → Bool → Type 0
    Both b c = found order x (cond b (joined q r ∷ qs) (cond c (r ∷ q ∷ qs) (q ∷ added r qs))) ≡ combined (found order x (q ∷ qs)) (found order x (r ∷ []))

    like : (b : Bool) → is_of order x q ≡ b → is_like q r ≡ true →
        found order x (joined q r ∷ qs) ≡ combined (found order x (q ∷ qs)) (found order x (r ∷ []))
    like b f e =
        let j : is_of order x (joined q r) ≡ b = is_of_joined order x q r ∙ f in
        let s : is_of order x r ≡ b = sym (is_of_same order x q r e) ∙ f in
        ap (λ t. cond t (Some (joined q r)) (found order x qs)) j ∙ (at b ∙ sym (λ i. combined (cond (f i) (Some q) (found order x qs)) (cond (s i) (Some r) None)))
      where
        at : (b : Bool) →
            cond b (Some (joined q r)) (found order x qs) ≡ combined (cond b (Some q) (found order x qs)) (cond b (Some r) None)
        at true = refl
        at false = sym (combined-none (found order x qs))

    before : (b : Bool) → is_of order x r ≡ b → order_of r < order_of q →
        found order x (r ∷ q ∷ qs) ≡ combined (found order x (q ∷ qs)) (found order x (r ∷ []))
    before true f lt =
        let o = is_of_parts order x r f in
        let none : found order x (q ∷ qs) ≡ None =
        ap (λ t. cond t (Some q) (found order x qs)) (is_of_order order x q (omega (arith, o.0))) ∙ none_above order x q qs (omega (arith, o.0)) p.0 in
        ap (λ t. cond t (Some r) (found order x (q ∷ qs))) f ∙ sym (λ i. combined (none i) (cond (f i) (Some r) None))
    before false f lt =
        ap (λ t. cond t (Some r) (found order x (q ∷ qs))) f ∙ sym (ap (λ t. combined (found order x (q ∷ qs)) (cond t (Some r) None)) f ∙ combined-none (found order x (q ∷ qs)))

    behind : (b : Bool) → is_of order x q ≡ b → is_like q r ≡ false →
        found order x (added r qs) ≡ combined (found order x qs) (found order x (r ∷ [])) →
        found order x (q ∷ added r qs) ≡ combined (found order x (q ∷ qs)) (found order x (r ∷ []))
    behind true f e h =
        let no : is_of order x r ≡ false = is_of_other order x q r e f in
        ap (λ t. cond t (Some q) (found order x (added r qs))) f ∙ sym (λ i. combined (cond (f i) (Some q) (found order x qs)) (cond (no i) (Some r) None))
    behind false f e h =
        ap (λ t. cond t (Some q) (found order x (added r qs))) f ∙ (h ∙ sym (ap (λ t. combined (cond t (Some q) (found order x qs)) (found order x (r ∷ []))) f))

    by : (b c : Bool) → found order x (added r qs) ≡ combined (found order x qs) (found order x (r ∷ [])) → is_like q r ≡ b →
        nat_lt (order_of r) (order_of q) ≡ c → Both b c
    by true c rest e f = like (is_of order x q) refl e
    by false true rest e f = before (is_of order x r) refl (ltb-true (order_of r) (order_of q) f)
    by false false rest e f = behind (is_of order x q) refl e rest

-- behind a record none of its kind and object is found
pub none_like : {V : Type 0} → (order : ℕ) (x : Uid) (q : Record V) (rs : List (Record V)) → is_of order x q ≡ true →
    AllByRecursion (Precedes q) rs → found order x rs ≡ None
none_like order x q [] e ps = refl
none_like order x q (s ∷ rs) e ps =
    ap (λ b. cond b (Some s) (found order x rs)) (is_of_other order x q s ps.0.1 e) ∙ none_like order x q rs e ps.1

-- what is found after a list was added, each kind and object of which is there once
pub found-gathered : {V : Type 0} → (order : ℕ) (x : Uid) (items rs : List (Record V)) → IsArranged items → IsArranged rs →
    found order x (gathered rs items) ≡ combined (found order x rs) (found order x items)
found-gathered order x [] rs p q = sym (combined-none (found order x rs))
found-gathered {V} order x (r ∷ items) rs p q =
    found-gathered order x items (added r rs) p.1 (arranged_added r rs q) ∙ (ap (λ o. combined o (found order x items)) (found-added order x r rs q) ∙ by (is_of order x r) refl)
  where
    twice : (o : Option (Record V)) → combined (combined o (Some r)) None ≡ combined o (Some r)
    twice o = combined-none (combined o (Some r))

    by : (b : Bool) → is_of order x r ≡ b →
        combined (combined (found order x rs) (cond (is_of order x r) (Some r) None)) (found order x items) ≡ combined (found order x rs) (cond (is_of order x r) (Some r) (found order x items))
    by true e =
        let none : found order x items ≡ None = none_like order x r items e p.0 in
        (λ i. combined (combined (found order x rs) (cond (e i) (Some r) None)) (none i)) ∙ (twice (found order x rs) ∙ sym (ap (λ b. combined (found order x rs) (cond b (Some r) (found order x items))) e))
    by false e =
        ap (λ b. combined (combined (found order x rs) (cond b (Some r) None)) (found order x items)) e
        ∙ (ap (λ o. combined o (found order x items)) (combined-none (found order x rs)) ∙ sym (ap (λ b. combined (found order x rs) (cond b (Some r) (found order x items))) e))

-- The records of an object go.

all_filter : {V : Type 0} → (test : Record V → Bool) (P : Record V → Type 0) (rs : List (Record V)) → AllByRecursion P rs →
    AllByRecursion P (filter test rs)
all_filter test P [] ps = tt
all_filter test P (r ∷ rs) ps = by (test r) (all_filter test P rs ps.1)
  where
    by : (b : Bool) → AllByRecursion P (filter test rs) → AllByRecursion P (cond b (r ∷ filter test rs) (filter test rs))
    by true h = (ps.0, h)
    by false h = h

arranged_filter : {V : Type 0} → (test : Record V → Bool) (rs : List (Record V)) → IsArranged rs → IsArranged (filter test rs)
arranged_filter test [] p = tt
arranged_filter test (r ∷ rs) p = by (test r) (arranged_filter test rs p.1)
  where
    by : (b : Bool) → IsArranged (filter test rs) → IsArranged (cond b (r ∷ filter test rs) (filter test rs))
    by true h = (all_filter test (Precedes r) rs p.0, h)
    by false h = h

pub arranged_forgotten : {V : Type 0} → (x : Uid) (rs : List (Record V)) → IsArranged rs → IsArranged (forgotten x rs)
arranged_forgotten x rs p = arranged_filter (λ r. not (uid_eq (object_of r) x)) rs p

pub length-forgotten : {V : Type 0} → (x : Uid) (rs : List (Record V)) → length (forgotten x rs) ≤ length rs
length-forgotten x [] = omega arith
length-forgotten x (r ∷ rs) = by (not (uid_eq (object_of r) x)) (length-forgotten x rs)
  where
    by : (b : Bool) → length (forgotten x rs) ≤ length rs → length (cond b (r ∷ forgotten x rs) (forgotten x rs)) ≤ length (r ∷ rs)
    by true h = omega arith
    by false h = omega arith

cond_none : {A : Type 0} → (b : Bool) (o : Option A) → o ≡ None → cond b None o ≡ None
cond_none true o e = refl
cond_none false o e = e

-- what is found after the records of an object are gone
pub found-forgotten : {V : Type 0} → (order : ℕ) (x gone : Uid) (rs : List (Record V)) →
    found order x (forgotten gone rs) ≡ cond (uid_eq x gone) None (found order x rs)
found-forgotten order x gone [] = sym (cond_none (uid_eq x gone) None refl)
found-forgotten {V} order x gone (r ∷ rs) = by (uid_eq (object_of r) gone) (uid_eq x gone) refl refl (found-forgotten order x gone rs)
  where
    Kept : Bool → Bool → Type 0
    Kept b c = found order x (cond (not b) (r ∷ forgotten gone rs) (forgotten gone rs)) ≡ cond c None (cond (is_of order x r) (Some r) (found order x rs))

    apart : uid_eq (object_of r) gone ≡ true → uid_eq x gone ≡ false → is_of order x r ≡ false
    apart e f =
        let other : uid_eq (object_of r) x ≡ false = ap (λ u. uid_eq u x) (uid_is (object_of r) gone e) ∙ (uid_sym gone x ∙ f) in
        ap (λ b. (order_of r == order) && b) other ∙ and-false (order_of r == order)

    other : uid_eq (object_of r) gone ≡ false → uid_eq x gone ≡ true → is_of order x r ≡ false
    other e f =
        let away : uid_eq (object_of r) x ≡ false = ap (λ u. uid_eq (object_of r) u) (uid_is x gone f) ∙ e in
        ap (λ b. (order_of r == order) && b) away ∙ and-false (order_of r == order)

    by : (b c : Bool) → uid_eq (object_of r) gone ≡ b → uid_eq x gone ≡ c →
        found order x (forgotten gone rs) ≡ cond (uid_eq x gone) None (found order x rs) → Kept b c
    by true true e f h = h ∙ ap (λ b. cond b None (found order x rs)) f
    by true false e f h = h ∙ (ap (λ b. cond b None (found order x rs)) f ∙ sym (ap (λ b. cond b (Some r) (found order x rs)) (apart e f)))
    by false true e f h =
        ap (λ b. cond b (Some r) (found order x (forgotten gone rs))) (other e f) ∙ (h ∙ ap (λ b. cond b None (found order x rs)) f)
    by false false e f h = ap (λ o. cond (is_of order x r) (Some r) o) (h ∙ ap (λ b. cond b None (found order x rs)) f)
