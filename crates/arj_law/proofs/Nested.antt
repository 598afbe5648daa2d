-- Nested order gives the answers of running each nested action whole at its commit.
use Rattle.arj_law.proofs.Terms
use Terms.{◌≡◌, ◌<◌, ℕ, ◌+◌, List, [], ◌∷◌, ◌++◌, map, Bool, true, false, cond, ◌&&◌, ◌||◌, ◌==◌, nat_lt, refl, sym, ◌∙◌, ap, subst, arith}
use Terms.{AllByRecursion, eq-eqb, eqb-true, false_from_ne_true, nat_tests, Line, Act, Placed, acts, committed, Call, committed_calls, tops}
use Terms.{Values, Serial, Answers, insert, arrange, lex, serial_less, serial_calls, is_among, is_conflict, commit_place, nested_calls}
use Terms.{IsFreedFor, FreedInOrder, AnsweredInTime}
use Rattle.arj_law.proofs.Common.{never, turned, Pairwise, all_map, all_both, pairwise_of, pairwise_both, pairwise_map}
use Rattle.arj_law.proofs.Depths.{depth, StandAt, ChainStands, chains_stand}
use Rattle.arj_law.proofs.Moves.{MayPass, arrange_answers, all_insert, all_arrange}
use Rattle.arj_law.proofs.Order.{rises, same_top_stays}
use Rattle.arj_model.specs.Nested.{nested_key, nested_less}

-- one key is behind another, by its first number
lex_behind : (m n : ℕ) (ms ns : List ℕ) → n < m → lex (m ∷ ms) (n ∷ ns) ≡ false
lex_behind m n ms ns lt =
    let back : nat_lt m n ≡ false = grind (arith, nat_tests, lt) in
    let apart : (m == n) ≡ false = grind (arith, nat_tests, lt) in
    (λ i. cond (back i) true (apart i && lex ms ns))

-- and where the first numbers are the same, by what is behind them
lex_next : (m n : ℕ) (ms ns : List ℕ) → m ≡ n → lex ms ns ≡ false → lex (m ∷ ms) (n ∷ ns) ≡ false
lex_next m n ms ns same e =
    let back : nat_lt m n ≡ false = grind (arith, nat_tests, same) in
    (λ i. cond (back i) true ((m == n) && e i)) ∙ same_both (m == n)
  where
    same_both : (b : Bool) → (b && false) ≡ false
    same_both true = refl
    same_both false = refl

-- what stands below a depth is among none of those that begin there
all_deeper : (us : List Act) (n : ℕ) (is : List ℕ) → StandAt us n is → AllByRecursion (λ i. n < depth us i) is
all_deeper us n [] s = tt
all_deeper us n (i ∷ is) s = (
  let at : depth us i ≡ n + 1 = s.0 in omega (arith, at),
  all_map (λ j. n + 1 < depth us j) (λ j. n < depth us j) (λ j lt. omega (arith, lt)) is (all_deeper us (n + 1) is s.1),
)

other_depth : (us : List Act) (i j : ℕ) → depth us i < depth us j → (j == i) ≡ false
other_depth us i j lt = false_from_ne_true (j == i) (λ same. let at : depth us j ≡ depth us i = ap (depth us) (eqb-true j i same) in
    absurd (omega (arith, lt, at)))

not_among_deeper : (us : List Act) (i : ℕ) (js : List ℕ) → AllByRecursion (λ j. depth us i < depth us j) js → is_among js i ≡ false
not_among_deeper us i [] h = refl
not_among_deeper us i (j ∷ js) h = (λ k. other_depth us i j h.0 k || not_among_deeper us i js h.1 k)

-- The first action that only the first call was made in was committed before the second call was answered, and that
-- call before each action that it was made in.
module _ (us : List Act) (ends : List (Placed ℕ)) (at : ℕ) where
  stands_behind : (first n : ℕ) (is js : List ℕ) → first < at → StandAt us n is → StandAt us n js →
      AllByRecursion (λ i. is_among js i ≡ false → commit_place ends i < at) is → AllByRecursion (λ j. at < commit_place ends j) js
      → lex (map (commit_place ends) js ++ at ∷ []) (map (commit_place ends) is ++ first ∷ []) ≡ false
  stands_behind first n [] [] lt s t freed time = lex_behind at first [] [] lt
  stands_behind first n [] (j ∷ js) lt s t freed time = lex_behind (commit_place ends j) first (map (commit_place ends) js ++ at ∷ []) []
      (let l : at < commit_place ends j = time.0 in omega (arith, lt, l))
  stands_behind first n (i ∷ is) [] lt s t freed time =
      lex_behind at (commit_place ends i) [] (map (commit_place ends) is ++ first ∷ []) (freed.0 refl)
  stands_behind first n (i ∷ is) (j ∷ js) lt s t freed time = by (λ f. stands_behind first (n + 1) is js lt s.1 t.1 f time.1) (j == i) refl
    where
      below : AllByRecursion (λ k. n + 1 < depth us k) js
      below = all_deeper us (n + 1) js t.1

      its : AllByRecursion (λ k. depth us i < depth us k) js
      its = all_map (λ k. n + 1 < depth us k) (λ k. depth us i < depth us k) (λ k l. let d : depth us i ≡ n + 1 = s.0 in
          omega (arith, l, d)) js below

      narrow : (k : ℕ) → (is_among (j ∷ js) k ≡ false → commit_place ends k < at) × (n + 1 < depth us k) → is_among js k ≡ false →
          commit_place ends k < at
      narrow k p e = let d : depth us j ≡ n + 1 = t.0 in let l : n + 1 < depth us k = p.1 in
          let deep : depth us j < depth us k = omega (arith, d, l) in p.0 (λ x. turned k j (other_depth us j k deep) x || e x)

      by : (AllByRecursion (λ k. is_among js k ≡ false → commit_place ends k < at) is →
          lex (map (commit_place ends) js ++ at ∷ []) (map (commit_place ends) is ++ first ∷ []) ≡ false) → (b : Bool) → (j == i) ≡ b
          → lex (map (commit_place ends) (j ∷ js) ++ at ∷ []) (map (commit_place ends) (i ∷ is) ++ first ∷ []) ≡ false
      by ih true same =
          lex_next (commit_place ends j) (commit_place ends i) (map (commit_place ends) js ++ at ∷ [])
          (map (commit_place ends) is ++ first ∷ []) (ap (commit_place ends) (eqb-true j i same))
          (ih (all_map (λ k. (is_among (j ∷ js) k ≡ false → commit_place ends k < at) × (n + 1 < depth us k)) (λ k. is_among js k ≡ false →
          commit_place ends k < at) narrow is
          (all_both (λ k. is_among (j ∷ js) k ≡ false →
          commit_place ends k < at) (λ k. n + 1 < depth us k) is freed.1 (all_deeper us (n + 1) is s.1))))
      by ih false same =
          lex_behind (commit_place ends j) (commit_place ends i) (map (commit_place ends) js ++ at ∷ [])
          (map (commit_place ends) is ++ first ∷ [])
          (let l : commit_place ends i < at = freed.0 (λ x. same x || not_among_deeper us i js its x) in
          let r : at < commit_place ends j = time.0 in omega (arith, l, r))

-- What the law takes of two calls, the first of which was answered before the second.
record Two (us : List Act) (ends : List (Placed ℕ)) (c d : Call) : Type 0 where
  before : c.at < d.at
  freed : IsFreedFor ends c d
  first : ChainStands us c
  second : ChainStands us d
  time : AllByRecursion (λ a. d.at < commit_place ends a) d.chain

two_may_pass : (us : List Act) (ends : List (Placed ℕ)) (c d : Call) → Two us ends c d → MayPass (nested_less ends) c d
two_may_pass us ends c d two e = by (is_conflict c d) refl (d.top == c.top) refl e
  where
    by : (b : Bool) → is_conflict c d ≡ b → (s : Bool) → (d.top == c.top) ≡ s → (s && lex (nested_key ends d) (nested_key ends c)) ≡ true →
        b ≡ false
    by false conflict s same g = refl
    by true conflict false same g = never false g refl
    by true conflict true same g =
        let one : c.top ≡ d.top = sym (eqb-true d.top c.top same) in
        never (lex (nested_key ends d) (nested_key ends c)) g
        (stands_behind us ends d.at c.at (depth us d.top) c.chain d.chain two.before
        (subst (λ t. StandAt us (depth us t) c.chain) one two.first) two.second
        (two.freed two.before (eq-eqb c.top d.top one) conflict) two.time)

pairwise_all : {A : Type 0} (P : A → Type 0) (xs : List A) → AllByRecursion P xs → Pairwise (λ a b. P a × P b) xs
pairwise_all P [] h = tt
pairwise_all P (x ∷ xs) h = (all_map P (λ b. P x × P b) (λ b p. (h.0, p)) xs h.1, pairwise_all P xs h.1)

-- a sort that keeps what holds of each two items
insert_pairs : {A : Type 0} (R : A → A → Type 0) (less : A → A → Bool) (a : A) (xs : List A) →
    AllByRecursion (λ b. R a b × (less b a ≡ true → R b a)) xs → Pairwise R xs → Pairwise R (insert less a xs)
insert_pairs R less a [] h p = (tt, tt)
insert_pairs {A} R less a (x ∷ xs) h p = by (insert_pairs R less a xs h.1 p.1) (less x a) refl
  where
    by : Pairwise R (insert less a xs) → (b : Bool) → less x a ≡ b → Pairwise R (cond b (x ∷ insert less a xs) (a ∷ x ∷ xs))
    by ih true e = (all_insert (R x) less a xs (h.0.1 e) p.0, ih)
    by ih false e = ((h.0.0, all_map (λ b. R a b × (less b a ≡ true → R b a)) (R a) (λ b q. q.0) xs h.1), p)

pairwise_arrange : {A : Type 0} (R : A → A → Type 0) (less : A → A → Bool) (xs : List A) →
    Pairwise (λ a b. R a b × (less b a ≡ true → R b a)) xs → Pairwise R (arrange less xs)
pairwise_arrange R less [] p = tt
pairwise_arrange R less (x ∷ xs) p = insert_pairs R less x (arrange less xs)
    (all_arrange (λ b. R x b × (less b x ≡ true → R b x)) less xs p.0) (pairwise_arrange R less xs p.1)

-- calls of different tops aren't moved
other_tops : (lines : List Line) (ends : List (Placed ℕ)) (c d : Call) → serial_less (tops lines) d c ≡ true →
    MayPass (nested_less ends) d c
other_tops lines ends c d less e = by (c.top == d.top) refl e
  where
    by : (s : Bool) → (c.top == d.top) ≡ s → (s && lex (nested_key ends c) (nested_key ends d)) ≡ true → is_conflict d c ≡ false
    by true same g = never (serial_less (tops lines) d c) less (same_top_stays lines c d same)
    by false same g = never false g refl

pub nested_law : (values : Values) (lines : List Line) → Serial values lines → FreedInOrder lines → AnsweredInTime lines →
    Answers values (nested_calls lines)
nested_law values lines serial freed time =
    arrange_answers values (nested_less ends) (serial_calls lines)
    (pairwise_arrange (MayPass (nested_less ends)) (serial_less (tops lines)) calls
    (pairwise_map (Two us ends) (λ c d. MayPass (nested_less ends) c d × (serial_less (tops lines) d c ≡ true →
    MayPass (nested_less ends) d c)) (λ c d two. (two_may_pass us ends c d two, other_tops lines ends c d)) calls pairs))
    serial
  where
    us : List Act
    us = acts lines

    ends : List (Placed ℕ)
    ends = committed lines

    calls : List Call
    calls = committed_calls lines

    Known : Call → Type 0
    Known c = ChainStands us c × AllByRecursion (λ a. c.at < commit_place ends a) c.chain

    known : Pairwise (λ c d. Known c × Known d) calls
    known = pairwise_all Known calls
        (all_both (ChainStands us) (λ c. AllByRecursion (λ a. c.at < commit_place ends a) c.chain) calls (chains_stand lines) time)

    gathered : (c d : Call) → ((c.at < d.at) × IsFreedFor ends c d) × (Known c × Known d) → Two us ends c d
    gathered c d p = record { before = p.0.0; freed = p.0.1; first = p.1.0.0; second = p.1.1.0; time = p.1.1.1 }

    pairs : Pairwise (Two us ends) calls
    pairs =
        pairwise_map (λ c d. ((c.at < d.at) × IsFreedFor ends c d) × (Known c × Known d)) (Two us ends) gathered calls
        (pairwise_both (λ c d. (c.at < d.at) × IsFreedFor ends c d) (λ c d. Known c × Known d) calls
        (pairwise_both (λ c d. c.at < d.at) (IsFreedFor ends) calls (rises lines) (pairwise_of (IsFreedFor ends) calls freed)) known)
