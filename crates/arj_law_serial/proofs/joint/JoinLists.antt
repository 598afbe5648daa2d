-- Lists of numbers in increasing order.
use Rattle.arj_law_parts.proofs.Words
use Words.{◌≡◌, ◌||◌, ◌==◌, ◌&&◌, ◌<◌, ◌∙◌, arith, ℕ, Bool, true, false, cond, nat_lt, List, [], ◌∷◌, filter, ap, eqb-true, eq-eqb, refl}
use Words.{subst, sym, ⊎_elim, AllByRecursion, nat_cmp-IsAntisymmetric, match_ordering, nat_cmp, Ordering, Less, Equal, Greater, number_set}
use Words.{with_number}
use Rattle.arj_law_serial.proofs.Terms
use Terms.{or_which, increasing, insert_number, is_among, AreRising}
use Terms.words as disk
use Rattle.arj_law_parts.proofs.parts.Numbered.{AreUp}
use Rattle.arj_law_runs.proofs.journal.Books.{never}

-- ---- who is among numbers

pub has_is : (s : ℕ) (ns : List ℕ) → disk.has s ns ≡ is_among ns s
has_is s [] = refl
has_is s (n ∷ ns) = ap (λ b. (n == s) || b) (has_is s ns)

-- of those that pass a test
pub among_filter : (p : ℕ → Bool) (ns : List ℕ) (s : ℕ) → is_among (filter p ns) s ≡ (is_among ns s && p s)
among_filter p [] s = refl
among_filter p (n ∷ ns) s = by (p n) (n == s) refl refl (among_filter p ns s)
  where
    mixed : (b c : Bool) → b ≡ c → (b && c) ≡ c
    mixed b true e = ap (λ z. z && true) e
    mixed true false e = refl
    mixed false false e = refl

    by : (b c : Bool) → p n ≡ b → (n == s) ≡ c → is_among (filter p ns) s ≡ (is_among ns s && p s) →
        is_among (cond b (n ∷ filter p ns) (filter p ns)) s ≡ ((c || is_among ns s) && p s)
    by true true on same ih = ap (λ b. b || is_among (filter p ns) s) same ∙ sym (ap p (sym (eqb-true n s same)) ∙ on)
    by true false on other ih = ap (λ b. b || is_among (filter p ns) s) other ∙ ih
    by false true off same ih = ih ∙ ap (λ b. is_among ns s && b) (ap p (sym (eqb-true n s same)) ∙ off) ∙ and_false (is_among ns s)
        ∙ sym (ap p (sym (eqb-true n s same)) ∙ off)
      where
        and_false : (b : Bool) → (b && false) ≡ false
        and_false true = refl
        and_false false = refl
    by false false off other ih = ih

itself : (n : ℕ) → (n == n) ≡ true
itself n = eq-eqb n n refl

-- ---- in increasing order

-- above another number
abbrev pub AreAbove : ℕ → List ℕ → Type 0
AreAbove k ns = AllByRecursion (λ (m : ℕ). k < m) ns

above_more : (k n : ℕ) (ns : List ℕ) → k < n → AreAbove n ns → AreAbove k ns
above_more k n [] less all = tt
above_more k n (m ∷ ms) less all = (omega (arith, less, all.0), above_more k n ms less all.1)

none_below : (k s : ℕ) (ns : List ℕ) → AreAbove k ns → is_among ns s ≡ true → k < s
none_below k s [] all on = absurd (cc on)
none_below k s (n ∷ ns) all on = ⊎_elim (λ same. subst (λ m. k < m) (eqb-true n s same) all.0) (λ rest. none_below k s ns all.1 rest)
    (or_which (n == s) (is_among ns s) on)

not_itself : (n : ℕ) (ns : List ℕ) → AreAbove n ns → is_among ns n ≡ false
not_itself n ns all = by (is_among ns n) refl
  where
    by : (b : Bool) → is_among ns n ≡ b → b ≡ false
    by false is = refl
    by true is = let less = none_below n n ns all is in absurd (omega (arith, less))

-- two such lists with the same numbers are one
pub rising_same : (ms ns : List ℕ) → AreRising ms → AreRising ns → ((s : ℕ) → is_among ms s ≡ is_among ns s) → ms ≡ ns
rising_same [] [] up down same = refl
rising_same [] (n ∷ ns) up down same = absurd (never (ap (λ b. b || is_among ns n) (itself n)) (sym (same n)))
rising_same (m ∷ ms) [] up down same = absurd (never (ap (λ b. b || is_among ms m) (itself m)) (same m))
rising_same (m ∷ ms) (n ∷ ns) up down same = λ i. first i ∷ rising_same ms ns up.1 down.1 rest i
  where
    first : m ≡ n
    first = ⊎_elim
        (λ here. sym (eqb-true n m here))
        (λ there. ⊎_elim
        (λ here. eqb-true m n here)
        (λ back. let one = none_below n m ns down.0 there in let two = none_below m n ms up.0 back in absurd (omega (arith, one, two)))
        (or_which (m == n) (is_among ms n) (same n ∙ ap (λ b. b || is_among ns n) (itself n))))
        (or_which (n == m) (is_among ns m) (sym (same m) ∙ ap (λ b. b || is_among ms m) (itself m)))

    rest : (s : ℕ) → is_among ms s ≡ is_among ns s
    rest s = by (m == s) refl
      where
        by : (b : Bool) → (m == s) ≡ b → is_among ms s ≡ is_among ns s
        by true is =
            let here : m ≡ s = eqb-true m s is in
            subst (λ k. is_among ms k ≡ false) here (not_itself m ms up.0)
            ∙ sym (subst (λ k. is_among ns k ≡ false) (sym first ∙ here) (not_itself n ns down.0))
        by false off = sym (ap (λ b. b || is_among ms s) off) ∙ same s ∙ ap (λ b. b || is_among ns s) (ap (λ k. k == s) (sym first) ∙ off)

pub rising_up : (ns : List ℕ) → AreUp ns → AreRising ns
rising_up [] up = tt
rising_up (n ∷ ns) up = (up.0, rising_up ns up.1)

above_filter : (p : ℕ → Bool) (k : ℕ) (ns : List ℕ) → AreAbove k ns → AreAbove k (filter p ns)
above_filter p k [] all = tt
above_filter p k (n ∷ ns) all = by (p n) (above_filter p k ns all.1)
  where
    by : (b : Bool) → AreAbove k (filter p ns) → AreAbove k (cond b (n ∷ filter p ns) (filter p ns))
    by true ih = (all.0, ih)
    by false ih = ih

pub rising_filter : (p : ℕ → Bool) (ns : List ℕ) → AreRising ns → AreRising (filter p ns)
rising_filter p [] up = tt
rising_filter p (n ∷ ns) up = by (p n) (rising_filter p ns up.1)
  where
    by : (b : Bool) → AreRising (filter p ns) → AreRising (cond b (n ∷ filter p ns) (filter p ns))
    by true ih = (above_filter p n ns up.0, ih)
    by false ih = ih

-- ---- numbers put in order

above_insert : (k n : ℕ) (ms : List ℕ) → k < n → AreAbove k ms → AreAbove k (insert_number n ms)
above_insert k n [] less all = (less, tt)
above_insert k n (m ∷ ms) less all = by (n == m) (nat_lt n m) (above_insert k n ms less all.1)
  where
    by : (a b : Bool) → AreAbove k (insert_number n ms) → AreAbove k (cond a (m ∷ ms) (cond b (n ∷ m ∷ ms) (m ∷ insert_number n ms)))
    by true b ih = all
    by false true ih = (less, all)
    by false false ih = (all.0, ih)

rising_insert : (n : ℕ) (ms : List ℕ) → AreRising ms → AreRising (insert_number n ms)
rising_insert n [] up = (tt, tt)
rising_insert n (m ∷ ms) up = by (n == m) (nat_lt n m) refl refl (rising_insert n ms up.1)
  where
    less : nat_lt n m ≡ true → n < m
    less is = grind (arith, is)

    more : (n == m) ≡ false → nat_lt n m ≡ false → m < n
    more other is = grind (arith, other, is)

    by : (a b : Bool) → (n == m) ≡ a → nat_lt n m ≡ b → AreRising (insert_number n ms) →
        AreRising (cond a (m ∷ ms) (cond b (n ∷ m ∷ ms) (m ∷ insert_number n ms)))
    by true b same is ih = up
    by false true other is ih = ((less is, above_more n m ms (less is) up.0), up)
    by false false other is ih = (above_insert m n ms (more other is) up.0, ih)

pub rising_increasing : (ns : List ℕ) → AreRising (increasing ns)
rising_increasing [] = tt
rising_increasing (n ∷ ns) = rising_insert n (increasing ns) (rising_increasing ns)

among_insert : (n : ℕ) (ms : List ℕ) (s : ℕ) → is_among (insert_number n ms) s ≡ ((n == s) || is_among ms s)
among_insert n [] s = refl
among_insert n (m ∷ ms) s = by (n == m) (nat_lt n m) refl (among_insert n ms s)
  where
    twice : (b c : Bool) → (b || c) ≡ (b || (b || c))
    twice true c = refl
    twice false c = refl

    turn : (a b c : Bool) → (a || (b || c)) ≡ (b || (a || c))
    turn true true c = refl
    turn true false c = refl
    turn false b c = refl

    by : (a b : Bool) → (n == m) ≡ a → is_among (insert_number n ms) s ≡ ((n == s) || is_among ms s) →
        is_among (cond a (m ∷ ms) (cond b (n ∷ m ∷ ms) (m ∷ insert_number n ms))) s ≡ ((n == s) || ((m == s) || is_among ms s))
    by true b same ih = twice (m == s) (is_among ms s) ∙ ap (λ k. (k == s) || ((m == s) || is_among ms s)) (sym (eqb-true n m same))
    by false true other ih = refl
    by false false other ih = ap (λ b. (m == s) || b) ih ∙ turn (m == s) (n == s) (is_among ms s)

pub among_increasing : (ns : List ℕ) (s : ℕ) → is_among (increasing ns) s ≡ is_among ns s
among_increasing [] s = refl
among_increasing (n ∷ ns) s = among_insert n (increasing ns) s ∙ ap (λ b. (n == s) || b) (among_increasing ns s)

-- a set of numbers has those that it is of
among_key : (n : ℕ) (ms : List ℕ) (s : ℕ) → is_among (with_number n ms) s ≡ ((n == s) || is_among ms s)
among_key n [] s = refl
among_key n (m ∷ ms) s = by (nat_cmp n m) refl (among_key n ms s)
  where
    twice : (b c : Bool) → (b || c) ≡ (b || (b || c))
    twice true c = refl
    twice false c = refl

    turn : (a b c : Bool) → (a || (b || c)) ≡ (b || (a || c))
    turn true true c = refl
    turn true false c = refl
    turn false b c = refl

    by : (r : Ordering) → nat_cmp n m ≡ r → is_among (with_number n ms) s ≡ ((n == s) || is_among ms s) →
        is_among (match_ordering r (n ∷ m ∷ ms) (m ∷ ms) (m ∷ with_number n ms)) s ≡ ((n == s) || ((m == s) || is_among ms s))
    by Less is ih = refl
    by Equal is ih =
        twice (m == s) (is_among ms s) ∙ ap (λ k. (k == s) || ((m == s) || is_among ms s)) (sym (nat_cmp-IsAntisymmetric n m is))
    by Greater is ih = ap (λ b. (m == s) || b) ih ∙ turn (m == s) (n == s) (is_among ms s)

pub among_set : (ns : List ℕ) (s : ℕ) → is_among (number_set ns) s ≡ is_among ns s
among_set [] s = refl
among_set (n ∷ ns) s = among_key n (number_set ns) s ∙ ap (λ b. (n == s) || b) (among_set ns s)

-- Numbers in order that pass a test are those of a list that pass another one, in order, where both tests agree on them.
pub filtered_same : (p q : ℕ → Bool) (ms ns : List ℕ) → AreRising ms → ((s : ℕ) → is_among ms s ≡ is_among ns s) →
    ((s : ℕ) → is_among ms s ≡ true → p s ≡ q s) → filter p ms ≡ increasing (filter q ns)
filtered_same p q ms ns up same tests =
    rising_same (filter p ms) (increasing (filter q ns)) (rising_filter p ms up) (rising_increasing (filter q ns)) each
  where
    each : (s : ℕ) → is_among (filter p ms) s ≡ is_among (increasing (filter q ns)) s
    each s = among_filter p ms s ∙ by (is_among ms s) refl ∙ ap (λ b. b && q s) (same s) ∙ sym (among_filter q ns s)
        ∙ sym (among_increasing (filter q ns) s)
      where
        by : (b : Bool) → is_among ms s ≡ b → (is_among ms s && p s) ≡ (is_among ms s && q s)
        by true is = ap (λ b. b && p s) is ∙ tests s is ∙ sym (ap (λ b. b && q s) is)
        by false is = ap (λ b. b && p s) is ∙ sym (ap (λ b. b && q s) is)
