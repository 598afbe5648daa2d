-- The test of an answer's text is that some value of a class that has the operation gives it.
use Rattle.std.specs.Bool.{Decides}
use Rattle.std.specs.Fmt.{decimal, digit_glyph, digits, digits_onto}
use Rattle.std.specs.List.{flat_map}
use Rattle.std.specs.Prelude.{◌≡◌, ◌⊎◌, ◌<◌, ◌≤◌, ◌+◌, ◌-◌, ◌*◌, ◌/◌, ◌%◌, ◌==◌, ◌&&◌, ◌||◌, ◌++◌, ◌∷◌, [], ℕ, zero, suc, List, Bool}
use Rattle.std.specs.Prelude.{true, false, not, cond, codes}
use Rattle.std.specs.Prelude.{length, replicate, nat_le, nat_lt, if◌then◌else◌, Option, Some, None, is_some, refl}
use Rattle.std.specs.Str.{bytes_eq}
use Rattle.std.proofs.Common.{sym, ◌∙◌, ap, subst, arith, inl, inr, ⊎_elim}
use Rattle.std.proofs.lemmas.Bool.{and_parts, eqb-true, eq-eqb}
use Rattle.std.proofs.lemmas.Bool.Decides.{Decides-and, Decides-like, Decides-ltb, Decides-or, nat_tests}
use Rattle.std.proofs.lemmas.List.{append-nil}
use Rattle.std.proofs.lemmas.Slice.Eq.{bytes_eq-Decides}
use Rattle.arj_base.specs.declared.state.Class.{Class}
use Rattle.arj_base.specs.declared.state.Class.TheVariants as class
use Rattle.arj_class.specs.Table.{answer_of, class_of, has_op, is_full_for, is_value_of, number_or_nothing, own_class, value_at}
use Rattle.arj_class.specs.declared.op.Answer.TheVariants.{Done, Over, Short, Full, There}
use Rattle.arj_class.specs.declared.op.Answer.TheVariants as answer
use Rattle.arj_class.specs.declared.op.Op.{Op}
use Rattle.arj_class.specs.declared.op.Op.TheVariants.{Get, Add, Set, Put, Deposit, Withdraw, Len, Push, Pop, GetKey, PutPair, Remove, Create, Destroy}
use Rattle.arj_class.specs.declared.value.Value.{Value}
use Rattle.arj_class.specs.declared.value.Value.TheVariants.{Counter, Register, Account, Queue, Table, Gone}
use Rattle.arj_model.specs.Follows.{IsAnswerOf}
use Rattle.arj_text.specs.Label.{is_digit}
use Rattle.arj_text.specs.Words.{answer_text, hex, hex_digit, hex_pair}
use Rattle.arj_cause_tests.specs.Answers.{answers, answers_gone, answers_there, are_last, are_pairs, is_hex, is_high, is_low, is_nil, is_number, onto}

-- ---- numbers

onto_twice : (xs as_before behind : List ℕ) → onto (onto xs as_before) behind ≡ onto as_before (xs ++ behind)
onto_twice [] as_before behind = refl
onto_twice (x ∷ xs) as_before behind = onto_twice xs (x ∷ as_before) behind

-- the last digits of a number, from the last one on
abbrev last_of : ℕ → ℕ → List ℕ
last_of zero n = []
last_of (suc k) n = (48 + n % 10) ∷ (if n / 10 == 0 then [] else last_of k (n / 10))

glyph_is : (n : ℕ) → digit_glyph false (n % 10) ≡ 48 + n % 10
glyph_is n = ap (λ b. cond b (48 + n % 10) (87 + n % 10)) ((Decides-ltb (n % 10) 10).1 (omega arith))

digits_are : (k n : ℕ) (behind : List ℕ) → digits_onto k 10 false n behind ≡ onto (last_of k n) behind
digits_are zero n behind = refl
digits_are (suc k) n behind = by (n / 10 == 0) (digits_are k (n / 10) (d ∷ behind))
    ∙ ap (λ d. onto (cond (n / 10 == 0) [] (last_of k (n / 10))) (d ∷ behind)) (glyph_is n)
  where
    d : ℕ
    d = digit_glyph false (n % 10)

    by : (b : Bool) → digits_onto k 10 false (n / 10) (d ∷ behind) ≡ onto (last_of k (n / 10)) (d ∷ behind) →
        cond b (d ∷ behind) (digits_onto k 10 false (n / 10) (d ∷ behind)) ≡ onto (cond b [] (last_of k (n / 10))) (d ∷ behind)
    by true more = refl
    by false more = more

digit_here : (n : ℕ) → is_digit (48 + n % 10) ≡ true
digit_here n = small (n % 10) (omega arith)
  where
    small : (d : ℕ) → d < 10 → is_digit (48 + d) ≡ true
    small d less = grind (arith, nat_tests, less)

-- so they pass the test, of a number that isn't 0
last_pass : (k n : ℕ) → 1 ≤ n → are_last k (last_of k n) ≡ true
last_pass zero n some = refl
last_pass (suc k) n some = (λ i. digit_here n i && ((is_nil (cond (n / 10 == 0) [] (last_of k (n / 10))) && not (48 + n % 10 == 48))
    || are_last k (cond (n / 10 == 0) [] (last_of k (n / 10)))))
    ∙ by (n / 10 == 0) refl (last_pass k (n / 10))
  where
    apart : n / 10 ≡ 0 → (48 + n % 10 == 48) ≡ false
    apart none = other (n % 10) (omega (arith, none, some))
      where
        other : (d : ℕ) → 1 ≤ d → (48 + d == 48) ≡ false
        other d is = grind (arith, nat_tests, is)

    either : (b : Bool) → b ≡ true → (r : Bool) → (r || b) ≡ true
    either b is true = refl
    either b is false = is

    by : (b : Bool) → (n / 10 == 0) ≡ b → (1 ≤ n / 10 → are_last k (last_of k (n / 10)) ≡ true) →
        ((is_nil (cond b [] (last_of k (n / 10))) && not (48 + n % 10 == 48)) || are_last k (cond b [] (last_of k (n / 10)))) ≡ true
    by true is pass = ap (λ t. not t || are_last k []) (apart (eqb-true (n / 10) 0 is))
    by false is pass = either (are_last k (last_of k (n / 10))) (pass (more (n / 10) is))
        (is_nil (last_of k (n / 10)) && not (48 + n % 10 == 48))
      where
        more : (m : ℕ) → (m == 0) ≡ false → 1 ≤ m
        more zero is = absurd (cc is)
        more (suc m) is = omega arith

-- and what passes it are such digits
record IsLast (k : ℕ) (ds : List ℕ) : Type 0 where
  number : ℕ
  some : 1 ≤ number
  are : last_of k number ≡ ds

digit_of : (d : ℕ) → is_digit d ≡ true → (48 ≤ d) × (d ≤ 57)
digit_of d is = let p = and_parts (nat_le 48 d) (nat_le d 57) is in (leb d p.0, leb_to d p.1)
  where
    leb : (d : ℕ) → nat_le 48 d ≡ true → 48 ≤ d
    leb d is = grind (arith, nat_tests, is)

    leb_to : (d : ℕ) → nat_le d 57 ≡ true → d ≤ 57
    leb_to d is = grind (arith, nat_tests, is)

last_found : (k : ℕ) (ds : List ℕ) → are_last k ds ≡ true → IsLast k ds
last_found zero [] is = record { number = 1; some = omega arith; are = refl }
last_found zero (d ∷ ds) is = absurd (cc is)
last_found (suc k) [] is = absurd (cc is)
last_found (suc k) (d ∷ ds) is = ⊎_elim alone (λ e. more (last_found k ds e)) (or_cases (is_nil ds && not (d == 48)) (are_last k ds) p.1)
  where
    p : (is_digit d ≡ true) × (((is_nil ds && not (d == 48)) || are_last k ds) ≡ true)
    p = and_parts (is_digit d) ((is_nil ds && not (d == 48)) || are_last k ds) is

    low : 48 ≤ d
    low = (digit_of d p.0).0

    high : d ≤ 57
    high = (digit_of d p.0).1

    or_cases : (a b : Bool) → (a || b) ≡ true → (a ≡ true) ⊎ (b ≡ true)
    or_cases true b e = inl refl
    or_cases false b e = inr e

    -- the digits of a number with this last one
    made : (n : ℕ) (rest : List ℕ) → n % 10 ≡ d - 48 → cond (n / 10 == 0) [] (last_of k (n / 10)) ≡ rest → last_of (suc k) n ≡ d ∷ rest
    made n rest last others = λ i. same i ∷ others i
      where
        same : 48 + n % 10 ≡ d
        same = omega (arith, last, low)

    alone : (is_nil ds && not (d == 48)) ≡ true → IsLast (suc k) (d ∷ ds)
    alone e =
        let q = and_parts (is_nil ds) (not (d == 48)) e in
        let positive : 1 ≤ d - 48 = above d low q.1 in
        let none : (d - 48) / 10 ≡ 0 = omega (arith, high) in
        record {
          number = d - 48;
          some = positive;
          are = made (d - 48) ds (omega (arith, high)) ((λ i. cond (none i == 0) [] (last_of k (none i))) ∙ empty ds q.0);
        }
      where
        above : (d : ℕ) → 48 ≤ d → not (d == 48) ≡ true → 1 ≤ d - 48
        above d low is = grind (arith, nat_tests, low, is)

        empty : (ds : List ℕ) → is_nil ds ≡ true → [] ≡ ds
        empty [] e = refl
        empty (d ∷ ds) e = absurd (cc e)

    more : IsLast k ds → IsLast (suc k) (d ∷ ds)
    more r =
        let m = r.number in
        let n = m * 10 + (d - 48) in
        let front : n / 10 ≡ m = omega (arith, low, high) in
        record {
          number = n;
          some = (let positive = r.some in omega (arith, positive));
          are = made n ds (omega (arith, low, high))
              ((λ i. cond (front i == 0) [] (last_of k (front i))) ∙ ap (λ b. cond b [] (last_of k m)) (other m r.some) ∙ r.are);
        }
      where
        other : (m : ℕ) → 1 ≤ m → (m == 0) ≡ false
        other m is = grind (arith, nat_tests, is)

decimal_is : (n : ℕ) → decimal n ≡ onto (last_of 64 n) []
unfolding digits
decimal_is n = digits_are 64 n []

number_decides : (text : List ℕ) → Decides (is_number text) ((n : ℕ) × (text ≡ decimal n))
number_decides text = Decides-like (is_number text) to from
    (Decides-or (bytes_eq text (48 ∷ [])) (are_last 64 (onto text [])) (bytes_eq-Decides text (48 ∷ [])) ((λ e. e), (λ e. e)))
  where
    to : (text ≡ 48 ∷ []) ⊎ (are_last 64 (onto text []) ≡ true) → (n : ℕ) × (text ≡ decimal n)
    to (inl e) = (0, e ∙ sym (decimal_is 0))
    to (inr e) = let r = last_found 64 (onto text []) e in
        (r.number, sym (append-nil text) ∙ sym (onto_twice text [] []) ∙ ap (λ ds. onto ds []) (sym r.are) ∙ sym (decimal_is r.number))

    from : (n : ℕ) × (text ≡ decimal n) → (text ≡ 48 ∷ []) ⊎ (are_last 64 (onto text []) ≡ true)
    from h = by h.0 (h.1 ∙ decimal_is h.0)
      where
        by : (n : ℕ) → text ≡ onto (last_of 64 n) [] → (text ≡ 48 ∷ []) ⊎ (are_last 64 (onto text []) ≡ true)
        by zero is = inl is
        by (suc n) is = inr (ap (λ t. are_last 64 (onto t [])) is
            ∙ ap (are_last 64) (onto_twice (last_of 64 (suc n)) [] [] ∙ append-nil (last_of 64 (suc n)))
            ∙ last_pass 64 (suc n) (omega arith))

-- ---- bytes

-- the number of which this is the digit
abbrev undigit : ℕ → ℕ
undigit d = if is_digit d then d - 48 else d - 87

high_cases : (d : ℕ) → is_high d ≡ true → ((is_digit d ≡ true) × (48 ≤ d) × (d ≤ 57)) ⊎ ((is_digit d ≡ false) × (97 ≤ d))
high_cases d is = by (is_digit d) refl
  where
    by : (b : Bool) → is_digit d ≡ b → ((is_digit d ≡ true) × (48 ≤ d) × (d ≤ 57)) ⊎ ((is_digit d ≡ false) × (97 ≤ d))
    by true e = let q = digit_of d e in inl (e, q.0, q.1)
    by false e = inr (e, above d (ap (λ b. b || nat_le 97 d) (sym e) ∙ is))
      where
        above : (d : ℕ) → nat_le 97 d ≡ true → 97 ≤ d
        above d is = grind (arith, nat_tests, is)

digit_back : (d : ℕ) → is_high d ≡ true → hex_digit (undigit d) ≡ d
digit_back d is = ⊎_elim
    (λ (h : (is_digit d ≡ true) × (48 ≤ d) × (d ≤ 57)). ap (λ b. hex_digit (cond b (d - 48) (d - 87))) h.0 ∙ low d h.1 h.2)
    (λ (h : (is_digit d ≡ false) × (97 ≤ d)). ap (λ b. hex_digit (cond b (d - 48) (d - 87))) h.0 ∙ high d h.1) (high_cases d is)
  where
    low : (d : ℕ) → 48 ≤ d → d ≤ 57 → hex_digit (d - 48) ≡ d
    low d le ge = grind (arith, nat_tests, le, ge)

    high : (d : ℕ) → 97 ≤ d → hex_digit (d - 87) ≡ d
    high d le = grind (arith, nat_tests, le)

low_so : (d : ℕ) → is_low d ≡ true → (is_high d ≡ true) × (undigit d < 16)
low_so d is = by (is_digit d) refl
  where
    small : (d : ℕ) → d ≤ 57 → 48 ≤ d → d - 48 < 16
    small d le ge = omega (arith, le, ge)

    letter : (d : ℕ) → (nat_le 97 d && nat_le d 102) ≡ true → (nat_le 97 d ≡ true) × (d - 87 < 16)
    letter d e = let p = and_parts (nat_le 97 d) (nat_le d 102) e in (p.0, below d p.1)
      where
        below : (d : ℕ) → nat_le d 102 ≡ true → d - 87 < 16
        below d is = grind (arith, nat_tests, is)

    by : (b : Bool) → is_digit d ≡ b → (is_high d ≡ true) × (undigit d < 16)
    by true e = let q = digit_of d e in
        (ap (λ b. b || nat_le 97 d) e, subst (λ b. cond b (d - 48) (d - 87) < 16) (sym e) (small d q.1 q.0))
    by false e = let q = letter d (ap (λ b. b || (nat_le 97 d && nat_le d 102)) (sym e) ∙ is) in
        (ap (λ b. b || nat_le 97 d) e ∙ q.0, subst (λ b. cond b (d - 48) (d - 87) < 16) (sym e) q.1)

pairs_found : (text : List ℕ) → are_pairs text ≡ true → (bytes : List ℕ) × (text ≡ flat_map hex_pair bytes)
pairs_found [] is = ([], refl)
pairs_found (c ∷ []) is = absurd (cc is)
pairs_found (c ∷ d ∷ rest) is =
    let p = and_parts (is_high c) (is_low d && are_pairs rest) is in
    let q = and_parts (is_low d) (are_pairs rest) p.1 in
    let h = pairs_found rest q.1 in
    let l = low_so d q.0 in
    let n = undigit c * 16 + undigit d in
    (n ∷ h.0, λ i. one c (undigit c) (undigit d) l.1 (digit_back c p.0) i ∷ two d (undigit c) (undigit d) l.1 (digit_back d l.0) i ∷ h.1 i)
  where
    one : (c a b : ℕ) → b < 16 → hex_digit a ≡ c → c ≡ hex_digit ((a * 16 + b) / 16)
    one c a b less is = sym is ∙ ap hex_digit (quotient a b less)
      where
        quotient : (a b : ℕ) → b < 16 → a ≡ (a * 16 + b) / 16
        quotient a b less = omega (arith, less)

    two : (d a b : ℕ) → b < 16 → hex_digit b ≡ d → d ≡ hex_digit ((a * 16 + b) % 16)
    two d a b less is = sym is ∙ ap hex_digit (remainder a b less)
      where
        remainder : (a b : ℕ) → b < 16 → b ≡ (a * 16 + b) % 16
        remainder a b less = omega (arith, less)

high_here : (n : ℕ) → is_high (hex_digit n) ≡ true
high_here n = grind (arith, nat_tests)

low_here : (n : ℕ) → n < 16 → is_low (hex_digit n) ≡ true
low_here n less = grind (arith, nat_tests, less)

pairs_pass : (bytes : List ℕ) → are_pairs (flat_map hex_pair bytes) ≡ true
pairs_pass [] = refl
pairs_pass (b ∷ bytes) = λ i. high_here (b / 16) i && (low_here (b % 16) (omega arith) i && pairs_pass bytes i)

hex_decides : (text : List ℕ) → Decides (is_hex text) ((bytes : List ℕ) × (text ≡ hex bytes))
hex_decides [] = (λ e. absurd (cc e), λ h. absurd (some h.0 h.1))
  where
    some : (bytes : List ℕ) → [] ≡ hex bytes → ⊥
    some [] e = cc e
    some (b ∷ bytes) e = cc e
hex_decides (d ∷ rest) = Decides-like (is_hex (d ∷ rest)) to (λ h. from h.0 h.1)
    (Decides-or (bytes_eq (d ∷ rest) (codes "-")) (are_pairs (d ∷ rest)) (bytes_eq-Decides (d ∷ rest) (codes "-")) ((λ e. e), (λ e. e)))
  where
    to : (d ∷ rest ≡ codes "-") ⊎ (are_pairs (d ∷ rest) ≡ true) → (bytes : List ℕ) × (d ∷ rest ≡ hex bytes)
    to (inl e) = ([], e)
    to (inr e) = let h = pairs_found (d ∷ rest) e in by h.0 h.1
      where
        by : (bytes : List ℕ) → d ∷ rest ≡ flat_map hex_pair bytes → (bytes : List ℕ) × (d ∷ rest ≡ hex bytes)
        by [] is = absurd (cc is)
        by (b ∷ bytes) is = (b ∷ bytes, is)

    from : (bytes : List ℕ) → d ∷ rest ≡ hex bytes → (d ∷ rest ≡ codes "-") ⊎ (are_pairs (d ∷ rest) ≡ true)
    from [] is = inl is
    from (b ∷ bytes) is = inr (ap are_pairs is ∙ pairs_pass (b ∷ bytes))

-- ---- operations

same_number : (n : ℕ) → (n == n) ≡ true
same_number n = eq-eqb n n refl

-- a text, compared with a word
word : (text other : List ℕ) → Decides (bytes_eq text other) (text ≡ other)
word text other = bytes_eq-Decides text other

-- the greatest number and what is above it
within : (m n : ℕ) → nat_lt (m + n) 18446744073709551616 ≡ true → n < 18446744073709551616
within m n is = below m n ((Decides-ltb (m + n) 18446744073709551616).0 is)
  where
    below : (m n : ℕ) → m + n < 18446744073709551616 → n < 18446744073709551616
    below m n less = omega (arith, less)

from_none : (n : ℕ) → n < 18446744073709551616 → nat_lt (0 + n) 18446744073709551616 ≡ true
from_none n less = (Decides-ltb (0 + n) 18446744073709551616).1 (omega (arith, less))

past_it : (n : ℕ) → nat_lt (18446744073709551616 + n) 18446744073709551616 ≡ false
past_it n = grind (arith, nat_tests)

length_of : (n : ℕ) → length {A = ℕ} (replicate n 0) ≡ n
length_of zero = refl
length_of (suc n) = ap suc (length_of n)

-- no key of these is the one asked for
none_there : (k n : ℕ) → value_at k (replicate n (suc k, 0)) ≡ None
none_there k zero = refl
none_there k (suc n) = ap (λ b. cond b (Some 0) (value_at k (replicate n (suc k, 0)))) (other k) ∙ none_there k n
  where
    other : (k : ℕ) → (suc k == k) ≡ false
    other k = grind (arith, nat_tests)

-- a sum is answered by one of two words
sum_decides : (n : ℕ) (text : List ℕ) →
    Decides ((nat_lt n 18446744073709551616 && bytes_eq text (codes "done")) || bytes_eq text (codes "over"))
    (((n < 18446744073709551616) × (text ≡ codes "done")) ⊎ (text ≡ codes "over"))
sum_decides n text = Decides-or (nat_lt n 18446744073709551616 && bytes_eq text (codes "done")) (bytes_eq text (codes "over"))
    (Decides-and (nat_lt n 18446744073709551616) (bytes_eq text (codes "done")) (Decides-ltb n 18446744073709551616)
    (word text (codes "done")))
    (word text (codes "over"))

-- the sum of m and n, as it is answered
sum_is : (n : ℕ) (text : List ℕ) (m : ℕ) → text ≡ answer_text (if nat_lt (m + n) 18446744073709551616 then Done else Over) →
    ((n < 18446744073709551616) × (text ≡ codes "done")) ⊎ (text ≡ codes "over")
sum_is n text m is = by (nat_lt (m + n) 18446744073709551616) refl is
  where
    by : (b : Bool) → nat_lt (m + n) 18446744073709551616 ≡ b → text ≡ answer_text (cond b Done Over) →
        ((n < 18446744073709551616) × (text ≡ codes "done")) ⊎ (text ≡ codes "over")
    by true fits is = inl (within m n fits, is)
    by false fits is = inr is

-- a number, or that there is none
either_decides : (text : List ℕ) → Decides (bytes_eq text (codes "none") || is_number text)
    ((text ≡ codes "none") ⊎ ((n : ℕ) × (text ≡ decimal n)))
either_decides text = Decides-or (bytes_eq text (codes "none")) (is_number text) (word text (codes "none")) (number_decides text)

found_is : (text : List ℕ) (o : Option ℕ) → text ≡ answer_text (number_or_nothing o) →
    (text ≡ codes "none") ⊎ ((n : ℕ) × (text ≡ decimal n))
found_is text None is = inl is
found_is text (Some n) is = inr (n, is)

-- a value of some class isn't gone
of_its_own : (c : Class) (w : Value) → is_value_of c w ≡ true → is_value_of (class_of w) w ≡ true
of_its_own c (Gone d) is = absurd (let e = sym (never c) ∙ is in cc e)
  where
    never : (c : Class) → is_value_of c (Gone d) ≡ false
    never class.Entry = refl
    never _ = refl
of_its_own c (Counter n) is = refl
of_its_own c (Register bytes) is = refl
of_its_own c (Account n) is = refl
of_its_own c (Queue ns) is = refl
of_its_own c (Table ps) is = refl

-- the value isn't gone, and the text is this word
of_class_decides : (w : Value) (text other : List ℕ) →
    Decides (is_value_of (class_of w) w && bytes_eq text other) ((is_value_of (class_of w) w ≡ true) × (text ≡ other))
of_class_decides w text other = Decides-and (is_value_of (class_of w) w) (bytes_eq text other) ((λ e. e), (λ e. e)) (word text other)

-- the text answers the operation at some object that is there, of a class that has it
abbrev IsAnswerThere : Op → List ℕ → Type 0
IsAnswerThere op text = (v : Value) × (has_op (class_of v) op ≡ true) × (text ≡ answer_text (answer_of op v))

-- the text answers it at some object that is gone
abbrev IsAnswerGone : Op → List ℕ → Type 0
IsAnswerGone op text = (c : Class) × (has_op c op ≡ true) × (text ≡ answer_text (answer_of op (Gone c)))

there_decide : (o : Op) (text : List ℕ) → Decides (answers_there o text) (IsAnswerThere o text)
there_decide Get text = Decides-like (is_number text || is_hex text) to (λ h. from h.0 h.1 h.2)
    (Decides-or (is_number text) (is_hex text) (number_decides text) (hex_decides text))
  where
    to : ((n : ℕ) × (text ≡ decimal n)) ⊎ ((bytes : List ℕ) × (text ≡ hex bytes)) → IsAnswerThere Get text
    to (inl h) = (Counter h.0, refl, h.1)
    to (inr h) = (Register h.0, refl, h.1)

    from : (v : Value) → has_op (class_of v) Get ≡ true → text ≡ answer_text (answer_of Get v) →
        ((n : ℕ) × (text ≡ decimal n)) ⊎ ((bytes : List ℕ) × (text ≡ hex bytes))
    from (Counter n) has is = inl (n, is)
    from (Register bytes) has is = inr (bytes, is)
    from (Account n) has is = inl (n, is)
    from (Queue ns) has is = absurd (cc has)
    from (Table ps) has is = absurd (cc has)
    from (Gone c) has is = absurd (cc has)
there_decide (Add n) text = Decides-like (answers_there (Add n) text) to (λ h. from h.0 h.1 h.2) (sum_decides n text)
  where
    to : ((n < 18446744073709551616) × (text ≡ codes "done")) ⊎ (text ≡ codes "over") → IsAnswerThere (Add n) text
    to (inl h) = (Counter 0, refl, h.1 ∙ ap (λ b. answer_text (cond b Done Over)) (sym (from_none n h.0)))
    to (inr e) = (Counter 18446744073709551616, refl, e ∙ ap (λ b. answer_text (cond b Done Over)) (sym (past_it n)))

    from : (v : Value) → has_op (class_of v) (Add n) ≡ true → text ≡ answer_text (answer_of (Add n) v) →
        ((n < 18446744073709551616) × (text ≡ codes "done")) ⊎ (text ≡ codes "over")
    from (Counter m) has is = sum_is n text m is
    from (Register bytes) has is = absurd (cc has)
    from (Account m) has is = absurd (cc has)
    from (Queue ns) has is = absurd (cc has)
    from (Table ps) has is = absurd (cc has)
    from (Gone c) has is = absurd (cc has)
there_decide (Deposit n) text = Decides-like (answers_there (Deposit n) text) to (λ h. from h.0 h.1 h.2) (sum_decides n text)
  where
    to : ((n < 18446744073709551616) × (text ≡ codes "done")) ⊎ (text ≡ codes "over") → IsAnswerThere (Deposit n) text
    to (inl h) = (Account 0, refl, h.1 ∙ ap (λ b. answer_text (cond b Done Over)) (sym (from_none n h.0)))
    to (inr e) = (Account 18446744073709551616, refl, e ∙ ap (λ b. answer_text (cond b Done Over)) (sym (past_it n)))

    from : (v : Value) → has_op (class_of v) (Deposit n) ≡ true → text ≡ answer_text (answer_of (Deposit n) v) →
        ((n < 18446744073709551616) × (text ≡ codes "done")) ⊎ (text ≡ codes "over")
    from (Account m) has is = sum_is n text m is
    from (Counter m) has is = absurd (cc has)
    from (Register bytes) has is = absurd (cc has)
    from (Queue ns) has is = absurd (cc has)
    from (Table ps) has is = absurd (cc has)
    from (Gone c) has is = absurd (cc has)
there_decide (Set n) text = Decides-like (answers_there (Set n) text) (λ e. (Counter 0, refl, e)) (λ h. from h.0 h.1 h.2)
    (word text (codes "done"))
  where
    from : (v : Value) → has_op (class_of v) (Set n) ≡ true → text ≡ answer_text (answer_of (Set n) v) → text ≡ codes "done"
    from (Counter m) has is = is
    from (Account m) has is = absurd (cc has)
    from (Register bytes) has is = absurd (cc has)
    from (Queue ns) has is = absurd (cc has)
    from (Table ps) has is = absurd (cc has)
    from (Gone c) has is = absurd (cc has)
there_decide (Put bytes) text = Decides-like (answers_there (Put bytes) text) (λ e. (Register [], refl, e)) (λ h. from h.0 h.1 h.2)
    (word text (codes "done"))
  where
    from : (v : Value) → has_op (class_of v) (Put bytes) ≡ true → text ≡ answer_text (answer_of (Put bytes) v) → text ≡ codes "done"
    from (Register old) has is = is
    from (Counter m) has is = absurd (cc has)
    from (Account m) has is = absurd (cc has)
    from (Queue ns) has is = absurd (cc has)
    from (Table ps) has is = absurd (cc has)
    from (Gone c) has is = absurd (cc has)
there_decide (Withdraw n) text = Decides-like (answers_there (Withdraw n) text) to (λ h. from h.0 h.1 h.2)
    (Decides-or (bytes_eq text (codes "done")) (nat_lt 0 n && bytes_eq text (codes "short")) (word text (codes "done"))
    (Decides-and (nat_lt 0 n) (bytes_eq text (codes "short")) (Decides-ltb 0 n) (word text (codes "short"))))
  where
    itself : (n : ℕ) → nat_lt n n ≡ false
    itself n = grind (arith, nat_tests)

    more : (m n : ℕ) → nat_lt m n ≡ true → 0 < n
    more m n is = grind (arith, nat_tests, is)

    to : (text ≡ codes "done") ⊎ ((0 < n) × (text ≡ codes "short")) → IsAnswerThere (Withdraw n) text
    to (inl e) = (Account n, refl, e ∙ ap (λ b. answer_text (cond b Short Done)) (sym (itself n)))
    to (inr h) = (Account 0, refl, h.1 ∙ ap (λ b. answer_text (cond b Short Done)) (sym ((Decides-ltb 0 n).1 h.0)))

    from : (v : Value) → has_op (class_of v) (Withdraw n) ≡ true → text ≡ answer_text (answer_of (Withdraw n) v) →
        (text ≡ codes "done") ⊎ ((0 < n) × (text ≡ codes "short"))
    from (Account m) has is = by (nat_lt m n) refl is
      where
        by : (b : Bool) → nat_lt m n ≡ b → text ≡ answer_text (cond b Short Done) →
            (text ≡ codes "done") ⊎ ((0 < n) × (text ≡ codes "short"))
        by true less is = inr (more m n less, is)
        by false less is = inl is
    from (Counter m) has is = absurd (cc has)
    from (Register bytes) has is = absurd (cc has)
    from (Queue ns) has is = absurd (cc has)
    from (Table ps) has is = absurd (cc has)
    from (Gone c) has is = absurd (cc has)
there_decide Len text = Decides-like (answers_there Len text) (λ h. (Queue (replicate h.0 0), refl, h.1 ∙ ap decimal (sym (length_of h.0))))
    (λ h. from h.0 h.1 h.2) (number_decides text)
  where
    from : (v : Value) → has_op (class_of v) Len ≡ true → text ≡ answer_text (answer_of Len v) → (n : ℕ) × (text ≡ decimal n)
    from (Queue ns) has is = (length ns, is)
    from (Counter m) has is = absurd (cc has)
    from (Register bytes) has is = absurd (cc has)
    from (Account m) has is = absurd (cc has)
    from (Table ps) has is = absurd (cc has)
    from (Gone c) has is = absurd (cc has)
there_decide (Push n) text = Decides-like (answers_there (Push n) text) to (λ h. from h.0 h.1 h.2)
    (Decides-or (bytes_eq text (codes "done")) (bytes_eq text (codes "full")) (word text (codes "done")) (word text (codes "full")))
  where
    to : (text ≡ codes "done") ⊎ (text ≡ codes "full") → IsAnswerThere (Push n) text
    to (inl e) = (Queue [], refl, e)
    to (inr e) = (Queue (replicate 32 0), refl, e)

    from : (v : Value) → has_op (class_of v) (Push n) ≡ true → text ≡ answer_text (answer_of (Push n) v) →
        (text ≡ codes "done") ⊎ (text ≡ codes "full")
    from (Queue ns) has is = by (nat_lt (length ns) 32) is
      where
        by : (b : Bool) → text ≡ answer_text (cond b Done Full) → (text ≡ codes "done") ⊎ (text ≡ codes "full")
        by true is = inl is
        by false is = inr is
    from (Counter m) has is = absurd (cc has)
    from (Register bytes) has is = absurd (cc has)
    from (Account m) has is = absurd (cc has)
    from (Table ps) has is = absurd (cc has)
    from (Gone c) has is = absurd (cc has)
there_decide Pop text = Decides-like (answers_there Pop text) to (λ h. from h.0 h.1 h.2) (either_decides text)
  where
    to : (text ≡ codes "none") ⊎ ((n : ℕ) × (text ≡ decimal n)) → IsAnswerThere Pop text
    to (inl e) = (Queue [], refl, e)
    to (inr h) = (Queue (h.0 ∷ []), refl, h.1)

    from : (v : Value) → has_op (class_of v) Pop ≡ true → text ≡ answer_text (answer_of Pop v) →
        (text ≡ codes "none") ⊎ ((n : ℕ) × (text ≡ decimal n))
    from (Queue []) has is = inl is
    from (Queue (n ∷ ns)) has is = inr (n, is)
    from (Counter m) has is = absurd (cc has)
    from (Register bytes) has is = absurd (cc has)
    from (Account m) has is = absurd (cc has)
    from (Table ps) has is = absurd (cc has)
    from (Gone c) has is = absurd (cc has)
there_decide (GetKey k) text = Decides-like (answers_there (GetKey k) text) to (λ h. from h.0 h.1 h.2) (either_decides text)
  where
    to : (text ≡ codes "none") ⊎ ((n : ℕ) × (text ≡ decimal n)) → IsAnswerThere (GetKey k) text
    to (inl e) = (Table [], refl, e)
    to (inr h) =
        (Table ((k, h.0) ∷ []), refl, h.1 ∙ ap (λ b. answer_text (number_or_nothing (cond b (Some h.0) None))) (sym (same_number k)))

    from : (v : Value) → has_op (class_of v) (GetKey k) ≡ true → text ≡ answer_text (answer_of (GetKey k) v) → (text ≡ codes "none")
        ⊎ ((n : ℕ) × (text ≡ decimal n))
    from (Table ps) has is = found_is text (value_at k ps) is
    from (Counter m) has is = absurd (cc has)
    from (Register bytes) has is = absurd (cc has)
    from (Account m) has is = absurd (cc has)
    from (Queue ns) has is = absurd (cc has)
    from (Gone c) has is = absurd (cc has)
there_decide (Remove k) text = Decides-like (answers_there (Remove k) text) to (λ h. from h.0 h.1 h.2) (either_decides text)
  where
    to : (text ≡ codes "none") ⊎ ((n : ℕ) × (text ≡ decimal n)) → IsAnswerThere (Remove k) text
    to (inl e) = (Table [], refl, e)
    to (inr h) =
        (Table ((k, h.0) ∷ []), refl, h.1 ∙ ap (λ b. answer_text (number_or_nothing (cond b (Some h.0) None))) (sym (same_number k)))

    from : (v : Value) → has_op (class_of v) (Remove k) ≡ true → text ≡ answer_text (answer_of (Remove k) v) → (text ≡ codes "none")
        ⊎ ((n : ℕ) × (text ≡ decimal n))
    from (Table ps) has is = found_is text (value_at k ps) is
    from (Counter m) has is = absurd (cc has)
    from (Register bytes) has is = absurd (cc has)
    from (Account m) has is = absurd (cc has)
    from (Queue ns) has is = absurd (cc has)
    from (Gone c) has is = absurd (cc has)
there_decide (PutPair k v) text = Decides-like (answers_there (PutPair k v) text) to (λ h. from h.0 h.1 h.2)
    (Decides-or (bytes_eq text (codes "done")) (bytes_eq text (codes "full")) (word text (codes "done")) (word text (codes "full")))
  where
    full : is_full_for k (replicate 16 (suc k, 0)) ≡ true
    full = ap (λ o. if is_some o then false else nat_le 16 16) (none_there k 16)

    to : (text ≡ codes "done") ⊎ (text ≡ codes "full") → IsAnswerThere (PutPair k v) text
    to (inl e) = (Table [], refl, e)
    to (inr e) = (Table (replicate 16 (suc k, 0)), refl, e ∙ ap (λ b. answer_text (cond b Full Done)) (sym full))

    from : (w : Value) → has_op (class_of w) (PutPair k v) ≡ true → text ≡ answer_text (answer_of (PutPair k v) w) → (text ≡ codes "done")
        ⊎ (text ≡ codes "full")
    from (Table ps) has is = by (is_full_for k ps) is
      where
        by : (b : Bool) → text ≡ answer_text (cond b Full Done) → (text ≡ codes "done") ⊎ (text ≡ codes "full")
        by true is = inr is
        by false is = inl is
    from (Counter m) has is = absurd (cc has)
    from (Register bytes) has is = absurd (cc has)
    from (Account m) has is = absurd (cc has)
    from (Queue ns) has is = absurd (cc has)
    from (Gone c) has is = absurd (cc has)
there_decide (Create w) text = Decides-like (answers_there (Create w) text) (λ h. (w, h.0, h.1 ∙ ap answer_text (sym (there w h.0))))
    (λ h. from h.0 h.1 h.2) (of_class_decides w text (codes "there"))
  where
    there : (v : Value) → is_value_of (class_of v) v ≡ true → answer_of (Create w) v ≡ There
    there (Gone c) is = absurd (cc is)
    there _ is = refl

    from : (v : Value) → has_op (class_of v) (Create w) ≡ true → text ≡ answer_text (answer_of (Create w) v) →
        (is_value_of (class_of w) w ≡ true) × (text ≡ codes "there")
    from (Gone c) has is = absurd (cc has)
    from (Counter n) has is = (of_its_own class.Counter w has, is)
    from (Register bytes) has is = (of_its_own class.Register w has, is)
    from (Account n) has is = (of_its_own class.Account w has, is)
    from (Queue ns) has is = (of_its_own class.Queue w has, is)
    from (Table ps) has is = (of_its_own class.Table w has, is)
there_decide Destroy text = Decides-like (answers_there Destroy text) (λ e. (Counter 0, refl, e)) (λ h. from h.0 h.1 h.2) (word text (codes "done"))
  where
    from : (v : Value) → has_op (class_of v) Destroy ≡ true → text ≡ answer_text (answer_of Destroy v) → text ≡ codes "done"
    from (Gone c) has is = absurd (cc has)
    from _ has is = is

-- an operation but a create answers that the object is gone
gone_word : (o : Op) (text : List ℕ) (k : Class) → has_op k o ≡ true → ((c : Class) → answer_of o (Gone c) ≡ answer.Gone) →
    Decides (bytes_eq text (codes "gone")) (IsAnswerGone o text)
gone_word o text k has all = Decides-like (bytes_eq text (codes "gone")) (λ e. (k, has, e ∙ ap answer_text (sym (all k))))
    (λ h. h.2 ∙ ap answer_text (all h.0)) (word text (codes "gone"))

gone_decide : (o : Op) (text : List ℕ) → Decides (answers_gone o text) (IsAnswerGone o text)
gone_decide Get text = gone_word Get text class.Counter refl (λ c. refl)
gone_decide (Add n) text = gone_word (Add n) text class.Counter refl (λ c. refl)
gone_decide (Set n) text = gone_word (Set n) text class.Counter refl (λ c. refl)
gone_decide (Put bytes) text = gone_word (Put bytes) text class.Register refl (λ c. refl)
gone_decide (Deposit n) text = gone_word (Deposit n) text class.Account refl (λ c. refl)
gone_decide (Withdraw n) text = gone_word (Withdraw n) text class.Account refl (λ c. refl)
gone_decide Len text = gone_word Len text class.Queue refl (λ c. refl)
gone_decide (Push n) text = gone_word (Push n) text class.Queue refl (λ c. refl)
gone_decide Pop text = gone_word Pop text class.Queue refl (λ c. refl)
gone_decide (GetKey k) text = gone_word (GetKey k) text class.Table refl (λ c. refl)
gone_decide (PutPair k v) text = gone_word (PutPair k v) text class.Table refl (λ c. refl)
gone_decide (Remove k) text = gone_word (Remove k) text class.Table refl (λ c. refl)
gone_decide Destroy text = gone_word Destroy text class.Counter refl (λ c. refl)
gone_decide (Create w) text = Decides-like (answers_gone (Create w) text) (λ h. (class_of w, h.0, h.1)) (λ h. (of_its_own h.0 w h.1, h.2))
    (of_class_decides w text (codes "done"))

pub answers_decide : (o : Op) (text : List ℕ) → Decides (answers o text) (IsAnswerOf o text)
answers_decide o text = Decides-like (answers o text) (⊎_elim (λ t. there t.0 t.1 t.2) (λ g. (Gone g.0, g.1, g.2))) (λ h. from h.0 h.1 h.2)
    (Decides-or (answers_there o text) (answers_gone o text) (there_decide o text) (gone_decide o text))
  where
    none : (o : Op) → has_op class.Gone o ≡ false
    none Get = refl
    none _ = refl

    there : (v : Value) → has_op (class_of v) o ≡ true → text ≡ answer_text (answer_of o v) → IsAnswerOf o text
    there (Gone c) has is = absurd (let e = sym (none o) ∙ has in cc e)
    there (Counter n) has is = (Counter n, has, is)
    there (Register bytes) has is = (Register bytes, has, is)
    there (Account n) has is = (Account n, has, is)
    there (Queue ns) has is = (Queue ns, has, is)
    there (Table ps) has is = (Table ps, has, is)

    from : (v : Value) → has_op (own_class v) o ≡ true → text ≡ answer_text (answer_of o v) → IsAnswerThere o text ⊎ IsAnswerGone o text
    from (Gone c) has is = inr (c, has, is)
    from (Counter n) has is = inl (Counter n, has, is)
    from (Register bytes) has is = inl (Register bytes, has, is)
    from (Account n) has is = inl (Account n, has, is)
    from (Queue ns) has is = inl (Queue ns, has, is)
    from (Table ps) has is = inl (Table ps, has, is)
