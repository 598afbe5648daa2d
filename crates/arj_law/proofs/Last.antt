-- The last state of an object after the next commit.
use Rattle.arj_law.proofs.Terms
use Terms.{◌≡◌, ◌<◌, ℕ, List, [], ◌∷◌, ◌++◌, Bool, true, false, cond, ◌||◌, ◌==◌, refl, sym, ◌∙◌, ap, filter, AllByRecursion, list_any}
use Terms.{eq-eqb, eqb-true, and_parts, or_left, false_from_ne_true, writes, Line, Call, tops, committed_calls, Values, run, insert}
use Terms.{arrange, serial_less, serial_calls, writes_on, writes_of, is_conflict, StandInOrder, InOrder}
use Rattle.arj_law.proofs.{Answers.run_writes, Moves.all_arrange, Order.rises, Order.in_order_may_pass}
use Rattle.arj_law.proofs.Common.{never, Pairwise, pairwise_of, pairwise_both, pairwise_map}
use Rattle.std.proofs.lemmas.Bool.{and_from}

-- What a sort doesn't let pass each other stays in its order.

filter_insert : {A : Type 0} (p : A → Bool) (less : A → A → Bool) (a : A) (xs : List A) →
    AllByRecursion (λ b. p a ≡ true → p b ≡ true → less b a ≡ false) xs → filter p (insert less a xs) ≡ filter p (a ∷ xs)
filter_insert p less a [] h = refl
filter_insert {A} p less a (x ∷ xs) h = by (filter_insert p less a xs h.1) (less x a) refl (p a) refl (p x) refl
  where
    rest : List A
    rest = filter p xs

    by : filter p (insert less a xs) ≡ cond (p a) (a ∷ rest) rest → (l : Bool) → less x a ≡ l → (b : Bool) → p a ≡ b → (d : Bool) → p x ≡ d
        → filter p (cond l (x ∷ insert less a xs) (a ∷ x ∷ xs)) ≡ cond b (a ∷ cond d (x ∷ rest) rest) (cond d (x ∷ rest) rest)
    by ih true g true e true k = never (less x a) g (h.0 e k)
    by ih true g true e false k =
        (λ i. cond (k i) (x ∷ filter p (insert less a xs)) (filter p (insert less a xs))) ∙ ih ∙ (λ i. cond (e i) (a ∷ rest) rest)
    by ih true g false e true k = (λ i. cond (k i) (x ∷ filter p (insert less a xs)) (filter p (insert less a xs)))
        ∙ ap (λ ys. x ∷ ys) (ih ∙ (λ i. cond (e i) (a ∷ rest) rest))
    by ih true g false e false k =
        (λ i. cond (k i) (x ∷ filter p (insert less a xs)) (filter p (insert less a xs))) ∙ ih ∙ (λ i. cond (e i) (a ∷ rest) rest)
    by ih false g b e d k = (λ i. cond (e i) (a ∷ cond (k i) (x ∷ rest) rest) (cond (k i) (x ∷ rest) rest))

pub filter_arrange : {A : Type 0} (p : A → Bool) (less : A → A → Bool) (xs : List A) →
    Pairwise (λ a b. p a ≡ true → p b ≡ true → less b a ≡ false) xs → filter p (arrange less xs) ≡ filter p xs
filter_arrange p less [] h = refl
filter_arrange p less (x ∷ xs) h =
    filter_insert p less x (arrange less xs) (all_arrange (λ b. p x ≡ true → p b ≡ true → less b x ≡ false) less xs h.0)
    ∙ (λ i. cond (p x) (x ∷ filter_arrange p less xs h.1 i) (filter_arrange p less xs h.1 i))

-- two writes on one object conflict
pub writes_conflict : (x : ℕ) (c d : Call) → writes_on x c ≡ true → writes_on x d ≡ true → is_conflict c d ≡ true
writes_conflict x c d e g =
    let p = and_parts (c.x == x) (writes c.op) e in
    let q = and_parts (d.x == x) (writes d.op) g in
    and_from (c.x == d.x) (writes c.op || writes d.op) (eq-eqb c.x d.x (eqb-true c.x x p.0 ∙ sym (eqb-true d.x x q.0)))
    (or_left (writes c.op) (writes d.op) p.1)

-- where order holds, the writes on an object stand in the serial order as they were answered
pub writes_are : (lines : List Line) (x : ℕ) → InOrder lines → writes_of lines x ≡ filter (writes_on x) (committed_calls lines)
writes_are lines x order = filter_arrange (writes_on x) less (committed_calls lines) (pairwise_map (λ c d. (c.at < d.at)
    × StandInOrder lines c d) (λ c d. writes_on x c ≡ true → writes_on x d ≡ true → less d c ≡ false) stay (committed_calls lines) pairs)
  where
    less : Call → Call → Bool
    less = serial_less (tops lines)

    pairs : Pairwise (λ c d. (c.at < d.at) × StandInOrder lines c d) (committed_calls lines)
    pairs = pairwise_both (λ c d. c.at < d.at) (StandInOrder lines) (committed_calls lines) (rises lines)
        (pairwise_of (StandInOrder lines) (committed_calls lines) order)

    stay : (c d : Call) → (c.at < d.at) × StandInOrder lines c d → writes_on x c ≡ true → writes_on x d ≡ true → less d c ≡ false
    stay c d h e g =
        false_from_ne_true (less d c) (λ passes. never (is_conflict c d) (writes_conflict x c d e g) (in_order_may_pass lines c d h passes))

-- The value of an object is that after the writes on it.
pub value_of_writes : (values : Values) (lines : List Line) (x : ℕ) → run values (serial_calls lines) x ≡ run values (writes_of lines x) x
value_of_writes values lines x = sym (run_writes values values x (serial_calls lines) refl)

-- Versions.

pub any_append : {A : Type 0} (p : A → Bool) (xs ys : List A) → list_any p ys ≡ false → list_any p (xs ++ ys) ≡ list_any p xs
any_append p [] ys e = e
any_append p (x ∷ xs) ys e = (λ i. p x || any_append p xs ys e i)

-- After the next commit.

pub all_filtered : {A : Type 0} (P : A → Type 0) (p : A → Bool) (xs : List A) → AllByRecursion P xs → AllByRecursion P (filter p xs)
all_filtered P p [] h = tt
all_filtered {A} P p (x ∷ xs) h = by (all_filtered P p xs h.1) (p x)
  where
    by : AllByRecursion P (filter p xs) → (b : Bool) → AllByRecursion P (cond b (x ∷ filter p xs) (filter p xs))
    by ih true = (h.0, ih)
    by ih false = ih
