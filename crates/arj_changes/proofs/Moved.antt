-- What a top moves, by what is kept of exclusions and includes.
use Rattle.std.proofs.Common.{◌≡◌, ℕ, suc, ◌+◌, List, [], ◌∷◌, ◌++◌, map, take, drop, Bool, true, false, cond, ◌&&◌}
use Rattle.std.proofs.Common.{◌||◌, ◌==◌, nat_lt, Option, Some, None, refl, sym, ◌∙◌, ap, arith}
use Rattle.std.specs.Prelude.{filter, slice_get}
use Rattle.std.specs.List.{cons_option, filter_map, list_all, list_any}
use Rattle.std.specs.Option.{option_map}
use Rattle.std.proofs.lemmas.Bool.{eq-eqb, eqb-true}
use Rattle.std.proofs.lemmas.Bool.Decides.{nat_tests}
use Rattle.std.proofs.lemmas.List.Folds.{list_all-map}
use Rattle.arj_journal.specs.declared.body.Line.{Line}
use Rattle.arj_law.proofs.Common.{never}
use Rattle.arj_model.specs.Actions.{Act, Placed, chain_in, committed, has_end, top_in}
use Rattle.arj_model.specs.Last.{Exclusion, Inclusion, excluded, included, insert_number, joins_by, joins_of, leaves_of}
use Rattle.arj_changes.specs.Kept.{AreKept, is_ended, join_of, leave_of}
use Rattle.arj_model.specs.Calls.{ids}
use Rattle.arj_changes.specs.Stores.{is_number, join_by, leave_by}
use Rattle.arj_changes.specs.Tops.{leading}
use Rattle.arj_changes.specs.declared.kept.Changes.{Changes}

leaves_by : (id x : ℕ) (es : List (Placed Exclusion)) →
    filter_map (leave_by id x) (map (λ e. leave_of e.it) es) ≡ map (λ e. e.it.node) (filter (λ e. (e.it.top == id) && (e.it.x == x)) es)
leaves_by id x [] = refl
leaves_by id x (e ∷ es) = by ((e.it.top == id) && (e.it.x == x)) (leaves_by id x es)
  where
    by : (b : Bool) →
        filter_map (leave_by id x) (map (λ f. leave_of f.it) es) ≡ map (λ f. f.it.node) (filter (λ f. (f.it.top == id) && (f.it.x == x)) es)
        → cons_option (cond b (Some e.it.node) None) (filter_map (leave_by id x) (map (λ f. leave_of f.it) es)) ≡ map (λ f. f.it.node) (cond b (e ∷ filter (λ f. (f.it.top == id) && (f.it.x == x)) es) (filter (λ f. (f.it.top == id) && (f.it.x == x)) es))
    by true ih = ap (λ ns. e.it.node ∷ ns) ih
    by false ih = ih

-- the nodes that a top excluded
pub leaves_are : (lines : List Line) (c : Changes) → AreKept lines c → (id x : ℕ) →
    filter_map (leave_by id x) c.leaves.items ≡ leaves_of lines id x
leaves_are lines c has id x = ap (filter_map (leave_by id x)) has.leaves ∙ leaves_by id x (excluded lines)

join_is : (ends : List (Placed ℕ)) (id x : ℕ) (i : Placed Inclusion) (o : Option Act) → top_in i.it.path ≡ o →
    join_by (has_end ends) id x (join_of i.it) ≡ joins_by ends id x i o
join_is ends id x i None e =
    (λ k. cond (is_number (option_map (λ a. a.id) (e k)) id && (i.it.x == x)) (cond (list_all (has_end ends) (ids (chain_in i.it.path))) (Some i.it.node) None) None)
join_is ends id x i (Some t) e =
    (λ k. cond (is_number (option_map (λ a. a.id) (e k)) id && (i.it.x == x)) (cond (list_all-map (has_end ends) (λ a. a.id) (chain_in i.it.path) k) (Some i.it.node) None) None)
    ∙ both (t.id == id) (i.it.x == x) (list_all (λ a. has_end ends a.id) (chain_in i.it.path))
  where
    both : (a b c : Bool) → cond (a && b) (cond c (Some i.it.node) None) None ≡ cond (a && (b && c)) (Some i.it.node) None
    both true true c = refl
    both true false c = refl
    both false b c = refl

joins_all : (ends : List (Placed ℕ)) (id x : ℕ) (is : List (Placed Inclusion)) →
    filter_map (join_by (has_end ends) id x) (map (λ i. join_of i.it) is) ≡ filter_map (λ i. joins_by ends id x i (top_in i.it.path)) is
joins_all ends id x [] = refl
joins_all ends id x (i ∷ is) = (λ k. cons_option (join_is ends id x i (top_in i.it.path) refl k) (joins_all ends id x is k))

-- the nodes of a top's surviving includes
pub joins_are : (lines : List Line) (c : Changes) → AreKept lines c → (id x : ℕ) →
    filter_map (join_by (is_ended c) id x) c.joins.items ≡ joins_of lines id x
joins_are lines c has id x =
    (λ k. filter_map (join_by (λ n. has.committed n k) id x) (has.joins k)) ∙ joins_all (committed lines) id x (included lines)

-- an object is moved by an exclusion
pub leave_any : (x : ℕ) (es : List (Placed Exclusion)) →
    list_any (λ l. l.x == x) (map (λ e. leave_of e.it) es) ≡ list_any (λ e. e.it.x == x) es
leave_any x [] = refl
leave_any x (e ∷ es) = ap (λ b. (e.it.x == x) || b) (leave_any x es)

-- or by an include
pub join_any : (x : ℕ) (is : List (Placed Inclusion)) →
    list_any (λ j. j.x == x) (map (λ i. join_of i.it) is) ≡ list_any (λ i. i.it.x == x) is
join_any x [] = refl
join_any x (i ∷ is) = ap (λ b. (i.it.x == x) || b) (join_any x is)

-- Increasing lists.

one_more : (n : ℕ) → suc n ≡ 1 + n
one_more n = omega arith

-- a number that stands behind the lower ones is there
pub number_there : (n : ℕ) (ms : List ℕ) → slice_get ms (leading (λ m. nat_lt m n) ms) ≡ Some n → insert_number n ms ≡ ms
number_there n [] e = absurd (cc e)
number_there n (m ∷ ms) e = by (number_there n ms) (n == m) refl (nat_lt n m) refl (nat_lt m n) refl e
  where
    by : (slice_get ms (leading (λ k. nat_lt k n) ms) ≡ Some n → insert_number n ms ≡ ms) → (a : Bool) → (n == m) ≡ a → (b : Bool) →
        nat_lt n m ≡ b → (c : Bool) → nat_lt m n ≡ c
        → slice_get (m ∷ ms) (cond c (1 + leading (λ k. nat_lt k n) ms) 0) ≡ Some n →
        cond a (m ∷ ms) (cond b (n ∷ m ∷ ms) (m ∷ insert_number n ms)) ≡ m ∷ ms
    by ih true same b lt c more g = refl
    by ih false same true lt true more g =
        let never_both : nat_lt m n ≡ false = grind (arith, nat_tests, lt) in never (nat_lt m n) more never_both
    by ih false same true lt false more g = let is : m ≡ n = cc g in never (n == m) (eq-eqb n m (sym is)) same
    by ih false same false lt true more g =
        ap (λ xs. m ∷ xs) (ih ((λ i. slice_get (m ∷ ms) (one_more (leading (λ k. nat_lt k n) ms) i)) ∙ g))
    by ih false same false lt false more g = let is : m ≡ n = cc g in never (n == m) (eq-eqb n m (sym is)) same

-- a number that doesn't goes there
pub number_put : (n : ℕ) (ms : List ℕ) → (slice_get ms (leading (λ m. nat_lt m n) ms) ≡ Some n → ⊥)
    → insert_number n ms ≡ take (leading (λ m. nat_lt m n) ms) ms ++ n ∷ drop (leading (λ m. nat_lt m n) ms) ms
number_put n [] e = refl
number_put n (m ∷ ms) e = by (number_put n ms) (n == m) refl (nat_lt n m) refl (nat_lt m n) refl e
  where
    by : ((slice_get ms (leading (λ k. nat_lt k n) ms) ≡ Some n → ⊥) →
        insert_number n ms ≡ take (leading (λ k. nat_lt k n) ms) ms ++ n ∷ drop (leading (λ k. nat_lt k n) ms) ms)
        → (a : Bool) → (n == m) ≡ a → (b : Bool) → nat_lt n m ≡ b → (c : Bool) → nat_lt m n ≡ c
        → (slice_get (m ∷ ms) (cond c (1 + leading (λ k. nat_lt k n) ms) 0) ≡ Some n → ⊥)
        → cond a (m ∷ ms) (cond b (n ∷ m ∷ ms) (m ∷ insert_number n ms)) ≡ take (cond c (1 + leading (λ k. nat_lt k n) ms) 0) (m ∷ ms) ++ n ∷ drop (cond c (1 + leading (λ k. nat_lt k n) ms) 0) (m ∷ ms)
    by ih true same b lt true more g =
        let is : n ≡ m =
        eqb-true n m same in let not_more : nat_lt m n ≡ false = grind (arith, nat_tests, is) in never (nat_lt m n) more not_more
    by ih true same b lt false more g = absurd (g (ap Some (sym (eqb-true n m same))))
    by ih false same true lt true more g =
        let never_both : nat_lt m n ≡ false = grind (arith, nat_tests, lt) in never (nat_lt m n) more never_both
    by ih false same true lt false more g = refl
    by ih false same false lt true more g =
        let k = leading (λ j. nat_lt j n) ms in
        ap (λ xs. m ∷ xs) (ih (λ e. g ((λ i. slice_get (m ∷ ms) (sym (one_more k) i)) ∙ e))) ∙ (λ i. take (one_more k i) (m ∷ ms) ++ n ∷ drop (one_more k i) (m ∷ ms))
    by ih false same false lt false more g = let is : (n == m) ≡ true = grind (arith, nat_tests, lt, more) in never (n == m) is same
