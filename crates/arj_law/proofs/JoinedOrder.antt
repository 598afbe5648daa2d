-- The serial order of two journals, one behind the other: first the calls of the first one, then those of the second.
use Rattle.arj_law.proofs.Terms
use Terms.{◌≡◌, ◌<◌, ℕ, ◌+◌, List, [], ◌∷◌, ◌++◌, length, map, Bool, true, false, cond, ◌&&◌, ◌||◌, ◌==◌, nat_lt, refl, sym, ◌∙◌, ap, subst}
use Terms.{arith, AllByRecursion, list_any, eq-eqb, or_right, nat_tests, Line, acts, Call, Top, committed_calls, tops, Answers, Serial}
use Terms.{Values, after, arrange, lex, run, serial_calls, serial_key, serial_less, top_place, AreApart, AreCalled, call_behind}
use Terms.{calls_behind, is_called, top_behind, tops_behind, values_after}
use Rattle.arj_law.proofs.{Answers.run-append, Common.all_map, Common.lex_turn, Common.never}
use Rattle.arj_law.proofs.JoinedCalls.{IsLowCall, calls_join, calls_low, other_number, same_behind, tops_join, tops_low}
use Rattle.arj_law.proofs.JoinedLists.{all_over, arrange_join, arrange_over, arrange_same}
use Rattle.arj_model.specs.Serial.{root_of, unit_place}
use Rattle.std.proofs.Math.Nat.{max-zero}
use Rattle.std.specs.Prelude.{max}

-- ---- keys

module _ (n k : ℕ) where
  abbrev Low : Top → Type 0
  Low t = (t.id < k) × (t.root < k) × (t.at < n)

  abbrev later : List Top → List Top
  later = map (top_behind n k)

  -- of an action of the first journal nothing hangs on the second one's tops
  root_none : (us : List Top) (i : ℕ) → i < k → root_of (later us) i ≡ i
  root_none [] i low = refl
  root_none (u ∷ us) i low =
      (λ j. cond (other_number (u.id + k) i (λ same. omega (arith, same, low)) j) (u.root + k) (root_none us i low j))

  root_low : (ts us : List Top) (i : ℕ) → i < k → root_of (ts ++ later us) i ≡ root_of ts i
  root_low [] us i low = root_none us i low
  root_low (t ∷ ts) us i low = ap (cond (t.id == i) t.root) (root_low ts us i low)

  root_below : (ts : List Top) (i : ℕ) → AllByRecursion Low ts → i < k → root_of ts i < k
  root_below [] i lows low = low
  root_below (t ∷ ts) i lows low = by (root_below ts i lows.1 low) (t.id == i)
    where
      by : root_of ts i < k → (b : Bool) → cond b t.root (root_of ts i) < k
      by ih true = lows.0.1
      by ih false = ih

  unit_none : (us : List Top) (r : ℕ) → r < k → unit_place (later us) r ≡ 0
  unit_none [] r low = refl
  unit_none (u ∷ us) r low = (λ j. cond (other_number (u.root + k) r (λ same. omega (arith, same, low)) j)
      (max (u.at + n) (unit_place (later us) r)) (unit_none us r low j))

  unit_low : (ts us : List Top) (r : ℕ) → r < k → unit_place (ts ++ later us) r ≡ unit_place ts r
  unit_low [] us r low = unit_none us r low
  unit_low (t ∷ ts) us r low = ap (λ p. cond (t.root == r) (max t.at p) p) (unit_low ts us r low)

  unit_below : (ts : List Top) (r : ℕ) → AllByRecursion Low ts → 0 < n → unit_place ts r < n
  unit_below [] r lows some = some
  unit_below (t ∷ ts) r lows some = by (unit_below ts r lows.1 some) (t.root == r)
    where
      by : unit_place ts r < n → (b : Bool) → cond b (max t.at (unit_place ts r)) (unit_place ts r) < n
      by ih true = let low = lows.0.2 in omega (arith, ih, low)
      by ih false = ih

  place_none : (us : List Top) (i : ℕ) → i < k → top_place (later us) i ≡ 0
  place_none [] i low = refl
  place_none (u ∷ us) i low =
      (λ j. cond (other_number (u.id + k) i (λ same. omega (arith, same, low)) j) (u.at + n) (place_none us i low j))

  pub place_low : (ts us : List Top) (i : ℕ) → i < k → top_place (ts ++ later us) i ≡ top_place ts i
  place_low [] us i low = place_none us i low
  place_low (t ∷ ts) us i low = ap (cond (t.id == i) t.at) (place_low ts us i low)

  pub key_low : (ts us : List Top) (i : ℕ) → AllByRecursion Low ts → i < k → serial_key (ts ++ later us) i ≡ serial_key ts i
  key_low ts us i lows low = (λ j. (ap (unit_place (ts ++ later us)) (root_low ts us i low)
      ∙ unit_low ts us (root_of ts i) (root_below ts i lows low)) j ∷ place_low ts us i low j ∷ [])

  -- nor does what is of the second one hang on the first one's
  root_over : (us : List Top) (i : ℕ) → root_of (later us) (i + k) ≡ root_of us i + k
  root_over [] i = refl
  root_over (u ∷ us) i = (λ j. cond (same_behind u.id i k j) (u.root + k) (root_over us i j)) ∙ by (u.id == i)
    where
      by : (b : Bool) → cond b (u.root + k) (root_of us i + k) ≡ cond b u.root (root_of us i) + k
      by true = refl
      by false = refl

  root_high : (ts us : List Top) (i : ℕ) → AllByRecursion Low ts → root_of (ts ++ later us) (i + k) ≡ root_of us i + k
  root_high [] us i lows = root_over us i
  root_high (t ∷ ts) us i lows =
      (λ j. cond (other_number t.id (i + k) (λ same. let low = lows.0.0 in omega (arith, same, low)) j) t.root (root_high ts us i lows.1 j))

  -- a unit with a member stands behind
  abbrev UnitIsLater : List Top → ℕ → Bool → Type 0
  UnitIsLater us r true = unit_place (later us) (r + k) ≡ unit_place us r + n
  UnitIsLater us r false = (unit_place (later us) (r + k) ≡ 0) × (unit_place us r ≡ 0)

  unit_over : (us : List Top) (r : ℕ) → UnitIsLater us r (list_any (λ t. t.root == r) us)
  unit_over [] r = (refl, refl)
  unit_over (u ∷ us) r = by (u.root == r) refl (list_any (λ t. t.root == r) us) (unit_over us r)
    where
      is : (b : Bool) → (u.root == r) ≡ b →
          unit_place (later (u ∷ us)) (r + k) ≡ cond b (max (u.at + n) (unit_place (later us) (r + k))) (unit_place (later us) (r + k))
      is b e =
          ap (λ c. cond c (max (u.at + n) (unit_place (later us) (r + k))) (unit_place (later us) (r + k))) (same_behind u.root r k ∙ e)

      was : (b : Bool) → (u.root == r) ≡ b → cond b (max u.at (unit_place us r)) (unit_place us r) ≡ unit_place (u ∷ us) r
      was b e = ap (λ c. cond c (max u.at (unit_place us r)) (unit_place us r)) (sym e)

      both : (a b : ℕ) → max (a + n) (b + n) ≡ max a b + n
      both a b = omega arith

      by : (b : Bool) → (u.root == r) ≡ b → (c : Bool) → UnitIsLater us r c → UnitIsLater (u ∷ us) r ((u.root == r) || c)
      by true e true ih = subst (λ d. UnitIsLater (u ∷ us) r (d || true)) (sym e)
          (is true e ∙ ap (max (u.at + n)) ih ∙ both u.at (unit_place us r) ∙ ap (λ p. p + n) (was true e))
      by true e false ih = subst (λ d. UnitIsLater (u ∷ us) r (d || false)) (sym e)
          (is true e ∙ ap (max (u.at + n)) ih.0 ∙ max-zero (u.at + n)
          ∙ ap (λ p. p + n) (sym (max-zero u.at) ∙ ap (max u.at) (sym ih.1) ∙ was true e))
      by false e true ih = subst (λ d. UnitIsLater (u ∷ us) r (d || true)) (sym e) (is false e ∙ ih ∙ ap (λ p. p + n) (was false e))
      by false e false ih = subst (λ d. UnitIsLater (u ∷ us) r (d || false)) (sym e) (is false e ∙ ih.0, sym (was false e) ∙ ih.1)

  unit_high : (ts us : List Top) (r : ℕ) → AllByRecursion Low ts → list_any (λ t. t.root == r) us ≡ true →
      unit_place (ts ++ later us) (r + k) ≡ unit_place us r + n
  unit_high [] us r lows has = subst (UnitIsLater us r) has (unit_over us r)
  unit_high (t ∷ ts) us r lows has =
      (λ j. cond (other_number t.root (r + k) (λ same. let low = lows.0.1 in omega (arith, same, low)) j)
      (max t.at (unit_place (ts ++ later us) (r + k))) (unit_high ts us r lows.1 has j))

  place_over : (us : List Top) (i : ℕ) → is_called us i ≡ true → top_place (later us) (i + k) ≡ top_place us i + n
  place_over [] i on = never false on refl
  place_over (u ∷ us) i on =
      (λ j. cond (same_behind u.id i k j) (u.at + n) (top_place (later us) (i + k))) ∙ by (place_over us i) (u.id == i) on
    where
      by : (is_called us i ≡ true → top_place (later us) (i + k) ≡ top_place us i + n) → (b : Bool) → (b || is_called us i) ≡ true →
          cond b (u.at + n) (top_place (later us) (i + k)) ≡ cond b u.at (top_place us i) + n
      by ih true e = refl
      by ih false e = ih e

  pub place_high : (ts us : List Top) (i : ℕ) → AllByRecursion Low ts → is_called us i ≡ true →
      top_place (ts ++ later us) (i + k) ≡ top_place us i + n
  place_high [] us i lows on = place_over us i on
  place_high (t ∷ ts) us i lows on = (λ j.
      cond (other_number t.id (i + k) (λ same. let low = lows.0.0 in omega (arith, same, low)) j) t.at (place_high ts us i lows.1 on j))

  -- the unit of a top that was called has a member
  called_unit : (us : List Top) (i : ℕ) → is_called us i ≡ true → list_any (λ t. t.root == root_of us i) us ≡ true
  called_unit [] i on = on
  called_unit (u ∷ us) i on = by (called_unit us i) (u.id == i) on
    where
      by : (is_called us i ≡ true → list_any (λ t. t.root == root_of us i) us ≡ true) → (b : Bool) → (b || is_called us i) ≡ true →
          ((u.root == cond b u.root (root_of us i)) || list_any (λ t. t.root == cond b u.root (root_of us i)) us) ≡ true
      by ih true e = ap (λ c. c || list_any (λ t. t.root == u.root) us) (eq-eqb u.root u.root refl)
      by ih false e = or_right (u.root == root_of us i) (list_any (λ t. t.root == root_of us i) us) (ih e)

  pub key_high : (ts us : List Top) (i : ℕ) → AllByRecursion Low ts → is_called us i ≡ true →
      serial_key (ts ++ later us) (i + k) ≡ map (λ j. j + n) (serial_key us i)
  key_high ts us i lows on = (λ j. (ap (unit_place (ts ++ later us)) (root_high ts us i lows)
      ∙ unit_high ts us (root_of us i) lows (called_unit us i on)) j ∷ place_high ts us i lows on j ∷ [])

  pub lex_over : (ms ns : List ℕ) → lex (map (λ j. j + n) ms) (map (λ j. j + n) ns) ≡ lex ms ns
  lex_over [] [] = refl
  lex_over [] (b ∷ ns) = refl
  lex_over (a ∷ ms) [] = refl
  lex_over (a ∷ ms) (b ∷ ns) = (λ i. cond (less i) true (same_behind a b n i && lex_over ms ns i))
    where
      less : nat_lt (a + n) (b + n) ≡ nat_lt a b
      less = grind (arith, nat_tests)

  -- the order of tops by their numbers
  abbrev pub stands_before : List Top → ℕ → ℕ → Bool
  stands_before ts i j = lex (serial_key ts i) (serial_key ts j)

  pub low_stands : (ts us : List Top) (i j : ℕ) → AllByRecursion Low ts → i < k → j < k →
      stands_before (ts ++ later us) i j ≡ stands_before ts i j
  low_stands ts us i j lows a b = (λ h. lex (key_low ts us i lows a h) (key_low ts us j lows b h))

  pub high_stands : (ts us : List Top) (i j : ℕ) → AllByRecursion Low ts → is_called us i ≡ true → is_called us j ≡ true →
      stands_before (ts ++ later us) (i + k) (j + k) ≡ stands_before us i j
  high_stands ts us i j lows a b =
      (λ h. lex (key_high ts us i lows a h) (key_high ts us j lows b h)) ∙ lex_over (serial_key us i) (serial_key us j)

  pub across_stands : (ts us : List Top) (i j : ℕ) → AllByRecursion Low ts → 0 < n → i < k → is_called us j ≡ true →
      stands_before (ts ++ later us) i (j + k) ≡ true
  across_stands ts us i j lows some a b =
      (λ h. lex (key_low ts us i lows a h) (key_high ts us j lows b h))
      ∙ (λ h. cond (front h) true
      ((unit_place ts (root_of ts i) == (unit_place us (root_of us j) + n)) && lex (top_place ts i ∷ []) ((top_place us j + n) ∷ [])))
    where
      front : nat_lt (unit_place ts (root_of ts i)) (unit_place us (root_of us j) + n) ≡ true
      front = let low = unit_below ts (root_of ts i) lows some in grind (arith, nat_tests, low)

-- ---- calls

answers_append : (values : Values) (cs ds : List Call) → Answers values cs → Answers (run values cs) ds → Answers values (cs ++ ds)
answers_append values [] ds a b = b
answers_append values (c ∷ cs) ds a b = (a.0, answers_append (after values c) cs ds a.1 b)

answers_over : (n k : ℕ) (values : Values) (cs : List Call) → Answers values cs → Answers values (map (call_behind n k) cs)
answers_over n k values [] a = a
answers_over n k values (c ∷ cs) a = (a.0, answers_over n k (after values c) cs a.1)

pub run_over : (n k : ℕ) (values : Values) (cs : List Call) → run values (map (call_behind n k) cs) ≡ run values cs
run_over n k values [] = refl
run_over n k values (c ∷ cs) = run_over n k (after values c) cs

module _ (first second : List Line) (apart : AreApart first second) (called : AreCalled second) where
  abbrev n : ℕ
  n = length first

  abbrev k : ℕ
  k = length (acts first)

  abbrev pub both_tops : List Top
  both_tops = tops first ++ tops_behind first (tops second)

  abbrev pub IsLow : Call → Type 0
  IsLow = IsLowCall first second apart

  abbrev pub IsCalledCall : Call → Type 0
  IsCalledCall c = is_called (tops second) c.top ≡ true

  pub lows : AllByRecursion IsLow (committed_calls first)
  lows = calls_low first second apart

  pub old_less : (c d : Call) → IsLow c → IsLow d → serial_less both_tops c d ≡ serial_less (tops first) c d
  old_less c d a b = low_stands n k (tops first) (tops second) c.top d.top (tops_low first second apart) a.1 b.1

  pub new_less : (c d : Call) → IsCalledCall c → IsCalledCall d →
      serial_less both_tops (call_behind n k c) (call_behind n k d) ≡ serial_less (tops second) c d
  new_less c d a b = high_stands n k (tops first) (tops second) c.top d.top (tops_low first second apart) a b

  pub across_less : (c d : Call) → IsLow c → IsCalledCall d → serial_less both_tops c (call_behind n k d) ≡ true
  across_less c d a b =
      across_stands n k (tops first) (tops second) c.top d.top (tops_low first second apart) (let low = a.0 in omega (arith, low)) a.1 b

  pub serial_join : serial_calls (first ++ second) ≡ serial_calls first ++ calls_behind first (serial_calls second)
  serial_join =
      (λ i. arrange (serial_less (tops_join first second apart i)) (calls_join first second apart i))
      ∙ arrange_join (serial_less both_tops) (committed_calls first) (calls_behind first (committed_calls second))
      (all_map IsLow (λ c. AllByRecursion (λ d. serial_less both_tops d c ≡ false) (calls_behind first (committed_calls second))) none
      (committed_calls first) lows)
      ∙ (λ i. arrange_same IsLow (serial_less both_tops) (serial_less (tops first)) old_less (committed_calls first) lows i
      ++ arrange_over IsCalledCall (call_behind n k) (serial_less both_tops) (serial_less (tops second)) new_less (committed_calls second)
      called i)
    where
      none : (c : Call) → IsLow c → AllByRecursion (λ d. serial_less both_tops d c ≡ false) (calls_behind first (committed_calls second))
      none c low = all_over IsCalledCall (λ d. serial_less both_tops d c ≡ false) (call_behind n k) (λ d on.
          lex_turn (serial_key both_tops c.top) (serial_key both_tops (d.top + k)) (across_less c d low on)) (committed_calls second) called

  pub values_join : (values : Values) → values_after values (first ++ second) ≡ values_after (values_after values first) second
  values_join values = ap (run values) serial_join ∙ run-append values (serial_calls first) (calls_behind first (serial_calls second))
      ∙ run_over n k (values_after values first) (serial_calls second)

  pub serial_both : (values : Values) → Serial values first → Serial (values_after values first) second → Serial values (first ++ second)
  serial_both values a b = subst (Answers values) (sym serial_join) (answers_append values (serial_calls first)
      (calls_behind first (serial_calls second)) a (answers_over n k (values_after values first) (serial_calls second) b))
