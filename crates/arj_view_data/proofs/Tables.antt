-- The tables of nodes, one after another.
use Rattle.std.proofs.Common.{◌≡◌, ◌⊎◌, inl, inr, ⊎_elim, ℕ, zero, suc, ◌+◌, ◌<◌, ◌≤◌, set, cond, sym, ◌&&◌, ◌∙◌, nat_lt, refl, List, []}
use Rattle.std.proofs.Common.{◌∷◌, ◌++◌, length, Bool, true, false, Option, Some, None, ap, subst, arith}
use Rattle.std.specs.Prelude.{MatchOption, slice_get}
use Rattle.std.proofs.lemmas.Bool.Decides.{nat_tests}
use Rattle.std.proofs.lemmas.Option.{slice_get_within}
use Rattle.arj_journal.specs.declared.body.Line.{Line}
use Rattle.arj_standing.specs.Doubts.{doubts_after, doubts_from}
use Rattle.arj_standing.specs.Node.{IsTable}
use Rattle.arj_standing.specs.declared.doubts.Doubt.{Doubt}
use Rattle.arj_standing.specs.declared.node.NodeLocks.{NodeLocks}
use Rattle.arj_view_data.specs.Behind.{AreTables}
use Rattle.arj_view_data.specs.Texts.{is_node}

-- what stands at a place of a list with one item more
get_push : {A : Type 0} (xs : List A) (x : A) (i : ℕ) (y : A) → slice_get (xs ++ x ∷ []) i ≡ Some y →
    (slice_get xs i ≡ Some y) ⊎ ((i ≡ length xs) × (x ≡ y))
get_push [] x zero y e = inr (refl, cc e)
get_push [] x (suc i) y e = absurd (cc e)
get_push (z ∷ xs) x zero y e = inl e
get_push (z ∷ xs) x (suc i) y e = ⊎_elim (λ there. inl there) (λ last. inr (ap suc last.0, last.1)) (get_push xs x i y e)

-- one table more
pub tables_push : (ls : List Line) (ts : List NodeLocks) (t : NodeLocks) → AreTables ls ts → IsTable (1 + length ts) ls t →
    AreTables ls (ts ++ t ∷ [])
tables_push ls ts t h is =
    λ i s e. ⊎_elim (h i s) (λ last. subst (λ n. IsTable (1 + n) ls s) (sym last.0) (subst (IsTable (1 + length ts) ls) last.1 is)) (get_push ts t i s e)

-- what stands at a place where one item was put in the place of another
get_set : {A : Type 0} (xs : List A) (k : ℕ) (x : A) (i : ℕ) (y : A) → slice_get (set xs k x) i ≡ Some y →
    ((i ≡ k) × (x ≡ y)) ⊎ ((i ≡ k → ⊥) × (slice_get xs i ≡ Some y))
get_set [] k x i y e = absurd (cc e)
get_set (z ∷ xs) zero x zero y e = inl (refl, cc e)
get_set (z ∷ xs) zero x (suc i) y e = inr ((λ same. omega (arith, same)), e)
get_set (z ∷ xs) (suc k) x zero y e = inr ((λ same. omega (arith, same)), e)
get_set (z ∷ xs) (suc k) x (suc i) y e =
    ⊎_elim (λ here. inl (ap suc here.0, here.1)) (λ there. inr ((λ same. there.0 (omega (arith, same))), there.1)) (get_set xs k x i y e)

-- the tables of which those before this place have taken a line
abbrev pub AreTaken : List Line → Line → ℕ → List NodeLocks → Type 0
AreTaken ls line k ts = (i : ℕ) (s : NodeLocks) → slice_get ts i ≡ Some s → IsTable (1 + i) (cond (nat_lt i k) (ls ++ line ∷ []) ls) s

pub set_length : {A : Type 0} (xs : List A) (k : ℕ) (x : A) → length (set xs k x) ≡ length xs
set_length [] k x = refl
set_length (y ∷ xs) zero x = refl
set_length (y ∷ xs) (suc k) x = ap suc (set_length xs k x)

-- at first none has
pub none_taken : (ls : List Line) (line : Line) (ts : List NodeLocks) → AreTables ls ts → AreTaken ls line 0 ts
none_taken ls line ts h =
    λ i s e. let none : nat_lt i 0 ≡ false =
    grind (arith, nat_tests) in subst (λ b. IsTable (1 + i) (cond b (ls ++ line ∷ []) ls) s) (sym none) (h i s e)

-- the table at a place, before it has taken the line
pub one_before : (ls : List Line) (line : Line) (k : ℕ) (ts : List NodeLocks) (t : NodeLocks) → AreTaken ls line k ts →
    slice_get ts k ≡ Some t → IsTable (1 + k) ls t
one_before ls line k ts t h e =
    let none : nat_lt k k ≡ false = grind (arith, nat_tests) in subst (λ b. IsTable (1 + k) (cond b (ls ++ line ∷ []) ls) t) none (h k t e)

-- one table more has taken the line
pub one_taken : (ls : List Line) (line : Line) (k : ℕ) (ts : List NodeLocks) (t : NodeLocks) → AreTaken ls line k ts →
    IsTable (1 + k) (ls ++ line ∷ []) t → AreTaken ls line (k + 1) (set ts k t)
one_taken ls line k ts t h is = λ i s e.
    ⊎_elim (λ here. let yes : nat_lt k (k + 1) ≡ true = grind (arith, nat_tests) in
    subst (λ n. IsTable (1 + n) (cond (nat_lt n (k + 1)) (ls ++ line ∷ []) ls) s) (sym here.0) (subst (λ b. IsTable (1 + k) (cond b (ls ++ line ∷ []) ls) s) (sym yes) (subst (IsTable (1 + k) (ls ++ line ∷ [])) here.1 is)))
    (λ there. subst (λ b. IsTable (1 + i) (cond b (ls ++ line ∷ []) ls) s) (same_side i there.0) (h i s there.1)) (get_set ts k t i s e)
  where
    same_side : (i : ℕ) → (i ≡ k → ⊥) → nat_lt i k ≡ nat_lt i (k + 1)
    same_side i apart = grind (arith, nat_tests, apart)

-- all tables have taken the line
pub all_taken : (ls : List Line) (line : Line) (k : ℕ) (ts : List NodeLocks) → length ts ≤ k → AreTaken ls line k ts →
    AreTables (ls ++ line ∷ []) ts
all_taken ls line k ts le h = λ i s e.
    let lt : i < length ts = slice_get_within ts i s e in
    let yes : nat_lt i k ≡ true = grind (arith, nat_tests, lt, le) in
    subst (λ b. IsTable (1 + i) (cond b (ls ++ line ∷ []) ls) s) yes (h i s e)

-- an item is there at each place below the length
get_below : {A : Type 0} (xs : List A) (i : ℕ) → i < length xs → slice_get xs i ≡ None → ⊥
get_below [] i lt e = omega (arith, lt)
get_below (x ∷ xs) zero lt e = cc e
get_below (x ∷ xs) (suc i) lt e = get_below xs i (omega (arith, lt)) e

-- the place of a node that is none of a run
pub no_node : (n i : ℕ) (ts : List NodeLocks) → n ≡ i + 1 → length ts ≡ 16 → slice_get ts i ≡ None → is_node n ≡ false
no_node n i ts at count e = by (nat_lt n 17) refl
  where
    zeroth : (b : Bool) → (b && false) ≡ false
    zeroth true = refl
    zeroth false = refl

    by : (b : Bool) → nat_lt n 17 ≡ b → is_node n ≡ false
    by false is = ap (λ c. nat_lt 0 n && c) is ∙ zeroth (nat_lt 0 n)
    by true is = let below : n < 17 = grind (arith, nat_tests, is) in absurd (get_below ts i (omega (arith, at, count, below)) e)

-- that of one, with its table
pub one_node : (n i : ℕ) (ls : List Line) (ts : List NodeLocks) (t : NodeLocks) → n ≡ i + 1 → length ts ≡ 16 → AreTables ls ts →
    slice_get ts i ≡ Some t → (is_node n ≡ true) × IsTable n ls t
one_node n i ls ts t at count are e =
    let lt : i < length ts = slice_get_within ts i t e in
    let below : n < 17 = omega (arith, at, count, lt) in
    let above : 0 < n = omega (arith, at) in
    let same : 1 + i ≡ n = omega (arith, at) in
    (grind (arith, nat_tests, below, above), subst (λ m. IsTable m ls t) same (are i t e))

-- what holds in each case of an option, by what holds there
pub match_more : {A : Type 0} (r : Option A) (P R : Type 0) (Q S : A → Type 0) → (P → R) → ((a : A) → Q a → S a) → MatchOption r P Q →
    MatchOption r R S
match_more None P R Q S f g h = f h
match_more (Some a) P R Q S f g h = g a h

-- what is in doubt behind one line more
pub doubts_more : (ds : List Doubt) (ls : List Line) (line : Line) →
    doubts_from ds (ls ++ line ∷ []) ≡ doubts_after line.body (doubts_from ds ls)
doubts_more ds [] line = refl
doubts_more ds (l ∷ ls) line = doubts_more (doubts_after l.body ds) ls line
