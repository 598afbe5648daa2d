-- Calls in serial order that were answered in that order, where they conflict.
use Rattle.std.proofs.Common.{◌≡◌, ◌≤◌, ◌<◌, ◌⊎◌, inl, inr, ℕ, ◌+◌, List, [], ◌∷◌, Bool, true, false, cond, ◌&&◌, ◌||◌, ◌==◌, nat_le, refl, sym, ◌∙◌}
use Rattle.std.proofs.Common.{arith}
use Rattle.std.specs.Prelude.{max}
use Rattle.std.specs.List.{AllByRecursion}
use Rattle.arj_book.specs.Kept.{Ends, end_with, stand_behind}
use Rattle.arj_class.specs.Table.{writes}
use Rattle.arj_journal.specs.declared.body.Line.{Line}
use Rattle.arj_law.proofs.Common.{Pairwise, all_both, all_map, never, pairwise_both, pairwise_map, pairwise_of, turned}
use Rattle.arj_law.proofs.Moves.{all_arrange, all_insert}
use Rattle.arj_law.proofs.Order.{in_order_may_pass, rises}
use Rattle.arj_model.specs.Book.{InOrder, OfEachTwo, StandInOrder, is_conflict}
use Rattle.arj_model.specs.Calls.{Call, Top, committed_calls, tops}
use Rattle.arj_model.specs.Serial.{arrange, insert, serial_calls, serial_key, serial_less}
use Rattle.arj_replay.proofs.Keys.{lex_one}
use Rattle.arj_replay.proofs.Sorts.{HaveOwnKeys, in_order}
use Rattle.std.proofs.Math.Logic.{⊎_elim}
use Rattle.std.proofs.lemmas.Bool.{eq-eqb, eqb-true}

-- ---- each call stands behind those before it

-- two numbers are at most a third where the greater one is
both_below : (m n k : ℕ) → max m n ≤ k → (m ≤ k) × (n ≤ k)
both_below m n k le = (omega (arith, le), omega (arith, le))

max_below : (m n k : ℕ) → m ≤ k → n ≤ k → max m n ≤ k
max_below m n k a b = omega (arith, a, b)

-- an end with one more call is behind this place where it was, and where the call stands before it, if they conflict
one_more : (e wc wd : Bool) (at a w n : ℕ) → cond wd (cond e (max (at + 1) a) a) (cond (wc && e) (max (at + 1) w) w) ≤ n →
    (cond wd a w ≤ n) × ((e && (wc || wd)) ≡ true → at < n)
one_more true true true at a w n le = let p = both_below (at + 1) a n le in (p.1, λ _. omega (arith, p.0))
one_more true true false at a w n le = let p = both_below (at + 1) w n le in (p.1, λ _. omega (arith, p.0))
one_more true false true at a w n le = let p = both_below (at + 1) a n le in (p.1, λ _. omega (arith, p.0))
one_more true false false at a w n le = (le, λ c. never false c refl)
one_more false true true at a w n le = (le, λ c. never false c refl)
one_more false true false at a w n le = (le, λ c. never false c refl)
one_more false false true at a w n le = (le, λ c. never false c refl)
one_more false false false at a w n le = (le, λ c. never false c refl)

one_less : (e wc wd : Bool) (at a w n : ℕ) → cond wd a w ≤ n → ((e && (wc || wd)) ≡ true → at < n) →
    cond wd (cond e (max (at + 1) a) a) (cond (wc && e) (max (at + 1) w) w) ≤ n
one_less true true true at a w n le c = max_below (at + 1) a n (let l = c refl in omega (arith, l)) le
one_less true true false at a w n le c = max_below (at + 1) w n (let l = c refl in omega (arith, l)) le
one_less true false true at a w n le c = max_below (at + 1) a n (let l = c refl in omega (arith, l)) le
one_less true false false at a w n le c = le
one_less false true true at a w n le c = le
one_less false true false at a w n le c = le
one_less false false true at a w n le c = le
one_less false false false at a w n le c = le

-- the end of the calls that a call conflicts with
abbrev end_for : Ends → Ends → Call → ℕ
end_for any wrote d = cond (writes d.op) (any d.x) (wrote d.x)

-- of two calls that conflict the first was answered first
abbrev pub AnsweredFirst : Call → Call → Type 0
AnsweredFirst c d = is_conflict c d ≡ true → c.at < d.at

le_true : (m n : ℕ) → m ≤ n → nat_le m n ≡ true
le_true m n le = grind (arith, le)

true_le : (m n : ℕ) → nat_le m n ≡ true → m ≤ n
true_le m n e = grind (arith, e)

pub and_left : (a b : Bool) → (a && b) ≡ true → a ≡ true
and_left true b e = refl
and_left false b e = never false e refl

pub and_right : (a b : Bool) → (a && b) ≡ true → b ≡ true
and_right true b e = e
and_right false b e = never false e refl

pub and_of : (a b : Bool) → a ≡ true → b ≡ true → (a && b) ≡ true
and_of a b e f = (λ i. e i && b) ∙ f

pub behind_pairs : (any wrote : Ends) (cs : List Call) → stand_behind any wrote cs ≡ true →
    AllByRecursion (λ d. end_for any wrote d ≤ d.at) cs × Pairwise AnsweredFirst cs
behind_pairs any wrote [] e = (tt, tt)
behind_pairs any wrote (c ∷ cs) e =
    let first = and_left (nat_le (end_for any wrote c) c.at) _ e in
    let ih = behind_pairs (end_with true any c.x c.at) (end_with (writes c.op) wrote c.x c.at) cs (and_right (nat_le (end_for any wrote c) c.at) _ e) in
    let each = all_map (λ d. end_for (end_with true any c.x c.at) (end_with (writes c.op) wrote c.x c.at) d ≤ d.at)
    (λ d. (end_for any wrote d ≤ d.at) × AnsweredFirst c d)
    (λ d le. one_more (c.x == d.x) (writes c.op) (writes d.op) c.at (any d.x) (wrote d.x) d.at le) cs ih.0 in (
      (true_le (end_for any wrote c) c.at first, all_map (λ d. (end_for any wrote d ≤ d.at) × AnsweredFirst c d) (λ d. end_for any wrote d ≤ d.at) (λ d p. p.0) cs each),
      (all_map (λ d. (end_for any wrote d ≤ d.at) × AnsweredFirst c d) (AnsweredFirst c) (λ d p. p.1) cs each, ih.1),
    )

pub pairs_behind : (any wrote : Ends) (cs : List Call) → AllByRecursion (λ d. end_for any wrote d ≤ d.at) cs → Pairwise AnsweredFirst cs →
    stand_behind any wrote cs ≡ true
pairs_behind any wrote [] le p = refl
pairs_behind any wrote (c ∷ cs) le p =
    and_of (nat_le (end_for any wrote c) c.at) _ (le_true (end_for any wrote c) c.at le.0)
    (pairs_behind (end_with true any c.x c.at) (end_with (writes c.op) wrote c.x c.at) cs (both cs le.1 p.0) p.1)
  where
    both : (ds : List Call) → AllByRecursion (λ d. end_for any wrote d ≤ d.at) ds → AllByRecursion (AnsweredFirst c) ds →
        AllByRecursion (λ d. end_for (end_with true any c.x c.at) (end_with (writes c.op) wrote c.x c.at) d ≤ d.at) ds
    both [] l q = tt
    both (d ∷ ds) l q = (
      one_less (c.x == d.x) (writes c.op) (writes d.op) c.at (any d.x) (wrote d.x) d.at l.0 q.0,
      both ds l.1 q.1,
    )

-- ---- the serial order

-- a sort that keeps what holds of each two items
insert_pairs : {A : Type 0} (R : A → A → Type 0) (less : A → A → Bool) (a : A) (xs : List A) →
    AllByRecursion (λ b. R a b × (less b a ≡ true → R b a)) xs → Pairwise R xs → Pairwise R (insert less a xs)
insert_pairs R less a [] h p = (tt, tt)
insert_pairs {A} R less a (x ∷ xs) h p = by (insert_pairs R less a xs h.1 p.1) (less x a) refl
  where
    by : Pairwise R (insert less a xs) → (b : Bool) → less x a ≡ b → Pairwise R (cond b (x ∷ insert less a xs) (a ∷ x ∷ xs))
    by ih true e = (all_insert (R x) less a xs (h.0.1 e) p.0, ih)
    by ih false e = ((h.0.0, all_map (λ b. R a b × (less b a ≡ true → R b a)) (R a) (λ b q. q.0) xs h.1), p)

arrange_pairs : {A : Type 0} (R : A → A → Type 0) (less : A → A → Bool) (xs : List A) →
    Pairwise (λ a b. R a b × (less b a ≡ true → R b a)) xs → Pairwise R (arrange less xs)
arrange_pairs R less [] p = tt
arrange_pairs R less (x ∷ xs) p = insert_pairs R less x (arrange less xs)
    (all_arrange (λ b. R x b × (less b x ≡ true → R b x)) less xs p.0) (arrange_pairs R less xs p.1)

-- what holds of each item of a sorted list holds of each
all_inserted : {A : Type 0} (P : A → Type 0) (less : A → A → Bool) (a : A) (xs : List A) → AllByRecursion P (insert less a xs) →
    P a × AllByRecursion P xs
all_inserted P less a [] ps = (ps.0, tt)
all_inserted {A} P less a (x ∷ xs) ps = by (all_inserted P less a xs) (less x a) ps
  where
    by : (AllByRecursion P (insert less a xs) → P a × AllByRecursion P xs) → (b : Bool) →
        AllByRecursion P (cond b (x ∷ insert less a xs) (a ∷ x ∷ xs)) → P a × AllByRecursion P (x ∷ xs)
    by ih true qs = let r = ih qs.1 in (r.0, (qs.0, r.1))
    by ih false qs = qs

pub all_arranged : {A : Type 0} (P : A → Type 0) (less : A → A → Bool) (xs : List A) → AllByRecursion P (arrange less xs) →
    AllByRecursion P xs
all_arranged P less [] ps = tt
all_arranged P less (x ∷ xs) ps = let r = all_inserted P less x (arrange less xs) ps in (r.0, all_arranged P less xs r.1)

-- conflicts are mutual
conflict_turned : (c d : Call) → is_conflict c d ≡ true → is_conflict d c ≡ true
conflict_turned c d e =
    let same : (d.x == c.x) ≡ true = eq-eqb d.x c.x (sym (eqb-true c.x d.x (and_left (c.x == d.x) _ e))) in
    and_of (d.x == c.x) _ same (turn (writes c.op) (writes d.op) (and_right (c.x == d.x) _ e))
  where
    turn : (a b : Bool) → (a || b) ≡ true → (b || a) ≡ true
    turn true true f = refl
    turn true false f = refl
    turn false true f = refl
    turn false false f = f

-- where order holds, calls that conflict were answered in the serial order
pub answered_first : (lines : List Line) → InOrder lines → Pairwise AnsweredFirst (serial_calls lines)
answered_first lines order =
    arrange_pairs AnsweredFirst (serial_less (tops lines)) (committed_calls lines)
    (pairwise_map (λ c d. (c.at < d.at) × StandInOrder lines c d)
    (λ c d. AnsweredFirst c d × (serial_less (tops lines) d c ≡ true → AnsweredFirst d c))
    (λ c d p. ((λ _. p.0), (λ less conflict. never (is_conflict c d) (conflict_turned d c conflict) (in_order_may_pass lines c d p less))))
    (committed_calls lines)
    (pairwise_both (λ c d. c.at < d.at) (StandInOrder lines) (committed_calls lines) (rises lines)
    (pairwise_of (StandInOrder lines) (committed_calls lines) order)))

-- what holds of each two items of a list, the first before the second, holds of each two one way or the other, or they have one place
abbrev pub Either : (Call → Call → Type 0) → Call → Call → Type 0
Either R c d = (R c d ⊎ R d c) ⊎ (c.at ≡ d.at)

pub each_way : (R : Call → Call → Type 0) (cs : List Call) → Pairwise R cs → OfEachTwo (Either R) cs
each_way R [] p = tt
each_way R (c ∷ cs) p =
    ((inr refl, all_map (R c) (Either R c) (λ d r. inl (inl r)) cs p.0), add cs p.0 (each_way R cs p.1))
  where
    add : (ds : List Call) → AllByRecursion (R c) ds → AllByRecursion (λ d. AllByRecursion (Either R d) cs) ds →
        AllByRecursion (λ d. AllByRecursion (Either R d) (c ∷ cs)) ds
    add [] r h = tt
    add (d ∷ ds) r h = ((inl (inr r.0), h.0), add ds r.1 h.1)

-- two lists of all pairs
pub all_two : (S T : Call → Call → Type 0) → ((c d : Call) → S c d → T c d) → (cs ds : List Call) →
    AllByRecursion (λ c. AllByRecursion (S c) ds) cs → AllByRecursion (λ c. AllByRecursion (T c) ds) cs
all_two S T f cs ds = all_map (λ c. AllByRecursion (S c) ds) (λ c. AllByRecursion (T c) ds) (λ c. all_map (S c) (T c) (f c) ds) cs

pub of_sorted : (S : Call → Call → Type 0) (less : Call → Call → Bool) (cs : List Call) → OfEachTwo S (arrange less cs) → OfEachTwo S cs
of_sorted S less cs h =
    all_map (λ c. AllByRecursion (S c) (arrange less cs)) (λ c. AllByRecursion (S c) cs) (λ c. all_arranged (S c) less cs) cs
    (all_arranged (λ c. AllByRecursion (S c) (arrange less cs)) less cs h)

pub both_two : (S T : Call → Call → Type 0) (cs ds : List Call) → AllByRecursion (λ c. AllByRecursion (S c) ds) cs →
    AllByRecursion (λ c. AllByRecursion (T c) ds) cs → AllByRecursion (λ c. AllByRecursion (λ d. S c d × T c d) ds) cs
both_two S T [] ds s t = tt
both_two S T (c ∷ cs) ds s t = (all_both (S c) (T c) ds s.0 t.0, both_two S T cs ds s.1 t.1)

-- and where they were, order holds
pub are_in_order : (lines : List Line) → OfEachTwo (λ c d. HaveOwnKeys (tops lines) d c) (committed_calls lines) →
    Pairwise AnsweredFirst (serial_calls lines) → InOrder lines
are_in_order lines own first =
    all_two (λ c d. Either R c d × HaveOwnKeys ts d c) (StandInOrder lines) stand (committed_calls lines) (committed_calls lines)
    (both_two (Either R) (λ c d. HaveOwnKeys ts d c) (committed_calls lines) (committed_calls lines)
    (of_sorted (Either R) (serial_less ts) (committed_calls lines) (each_way R (serial_calls lines) pairs)) own)
  where
    ts : List Top
    ts = tops lines

    R : Call → Call → Type 0
    R c d = (serial_less ts d c ≡ false) × AnsweredFirst c d

    pairs : Pairwise R (serial_calls lines)
    pairs = pairwise_both (λ c d. serial_less ts d c ≡ false) AnsweredFirst (serial_calls lines)
        (in_order (λ c. serial_key ts c.top) (committed_calls lines)) first

    ahead : (c d : Call) → serial_less ts d c ≡ false → HaveOwnKeys ts d c → (c.top == d.top) ≡ false → (b : Bool) → serial_less ts c d ≡ b →
        serial_less ts c d ≡ true
    ahead c d back own other true e = e
    ahead c d back own other false e = absurd (own (turned c.top d.top other) (lex_one (serial_key ts d.top) (serial_key ts c.top) back e))

    stand : (c d : Call) → Either R c d × HaveOwnKeys ts d c → StandInOrder lines c d
    stand c d p lt other conflict = ⊎_elim (λ (q : R c d ⊎ R d c). ⊎_elim (λ (r : R c d). ahead c d r.0 p.1 other (serial_less ts c d) refl)
        (λ (r : R d c). let l : d.at < c.at = r.1 (conflict_turned c d conflict) in absurd (omega (arith, lt, l))) q)
        (λ (same : c.at ≡ d.at). absurd (omega (arith, lt, same))) p.0
