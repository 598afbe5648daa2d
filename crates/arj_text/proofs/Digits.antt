-- The last digit of a number, and what stands before it.
use Rattle.std.proofs.Common.{◌≡◌, ◌≢◌, ◌∙◌, ◌+◌, ◌-◌, ◌/◌, ◌%◌, ◌^◌, ◌<◌, ◌≤◌, ◌==◌, ◌++◌, ◌∷◌, ℕ, Bool, true, false, List, [], length, suc}
use Rattle.std.proofs.Common.{ap, arith, get_or, sym, refl, take, ⊎_elim}
use Rattle.std.specs.Prelude.{MatchBool}
use Rattle.std.specs.Fmt.{decimal}
use Rattle.std.proofs.lemmas.Bool.{cases_lt}
use Rattle.std.proofs.lemmas.Bool.Decides.{nat_tests}
use Rattle.std.proofs.lemmas.Fmt.{decimal_digit, decimal_step}
use Rattle.std.proofs.lemmas.Grind.{common_steps}
use Rattle.std.proofs.lemmas.List.{append_cancel_right, take_rest}

-- the last of a list
abbrev last_of : List ℕ → ℕ
last_of [] = 0
last_of (x ∷ []) = x
last_of (x ∷ y ∷ ys) = last_of (y ∷ ys)

last_behind : (xs : List ℕ) (x : ℕ) → last_of (xs ++ x ∷ []) ≡ x
last_behind [] x = refl
last_behind (y ∷ []) x = refl
last_behind (y ∷ z ∷ xs) x = last_behind (z ∷ xs) x

is_nothing : (xs : List ℕ) → MatchBool (length xs == 0) (xs ≡ []) (xs ≢ [])
is_nothing [] = refl
is_nothing (x ∷ xs) = rw (no_zero (length xs)) (λ is. cc is)
  where
    no_zero : (i : ℕ) → (suc i == 0) ≡ false
    no_zero i = grind (arith, nat_tests)

parted : (bytes : List ℕ) → 1 ≤ length bytes → bytes ≡ take (length bytes - 1) bytes ++ get_or bytes (length bytes - 1) 0 ∷ []
parted bytes some = grind (arith, common_steps, take_rest)

module _ (n : ℕ) (most : n < 2 ^ 64) where
  -- a number ends in its last digit
  last_digit : last_of (decimal n) ≡ 48 + n % 10
  last_digit =
      ⊎_elim (λ more. ap last_of (decimal_step n (omega (arith, more)) most) ∙ last_behind (decimal (n / 10)) (48 + n % 10))
      (λ one. ap last_of (decimal_digit n (omega (arith, one))) ∙ omega (arith, one)) (cases_lt 9 n)

  -- nothing isn't its text
  pub ends_somehow : (bytes : List ℕ) → length bytes < 1 → bytes ≢ decimal n
  ends_somehow [] short is = let zero : 0 ≡ 48 + n % 10 = ap last_of is ∙ last_digit in absurd (omega (arith, zero))
  ends_somehow (b ∷ bytes) short is = absurd (omega (arith, short))

  module _ (bytes : List ℕ) (some : 1 ≤ length bytes) where
    abbrev front : List ℕ
    front = take (length bytes - 1) bytes

    abbrev last : ℕ
    last = get_or bytes (length bytes - 1) 0

    -- what ends otherwise isn't its text
    pub ends_otherwise : last ≢ 48 + n % 10 → bytes ≢ decimal n
    ends_otherwise other is = other (sym (last_behind front last) ∙ ap last_of (sym (parted bytes some) ∙ is) ∙ last_digit)

    -- what ends in the last digit of more than one is its text where the number of its tens stands before that
    pub ends_alike : 9 < n → last ≡ 48 + n % 10 → (b : Bool) → MatchBool b (front ≡ decimal (n / 10)) (front ≢ decimal (n / 10)) →
        MatchBool b (bytes ≡ decimal n) (bytes ≢ decimal n)
    ends_alike more same true is =
        parted bytes some ∙ (λ i. is i ++ same i ∷ []) ∙ sym (decimal_step n (omega (arith, more)) most)
    ends_alike more same false not = λ is.
        not (append_cancel_right front (decimal (n / 10)) (last ∷ []) (sym (parted bytes some)
        ∙ is ∙ decimal_step n (omega (arith, more)) most ∙ (λ i. decimal (n / 10) ++ sym same i ∷ [])))

    -- and that of one where nothing does
    pub ends_alone : n ≤ 9 → last ≡ 48 + n % 10 → MatchBool (length front == 0) (bytes ≡ decimal n) (bytes ≢ decimal n)
    ends_alone one same = by (length front == 0) (is_nothing front)
      where
        digit : decimal n ≡ last ∷ []
        digit = decimal_digit n (omega (arith, one)) ∙ (λ i. alike i ∷ [])
          where
            alike : 48 + n ≡ last
            alike = omega (arith, one, same)

        by : (b : Bool) → MatchBool b (front ≡ []) (front ≢ []) → MatchBool b (bytes ≡ decimal n) (bytes ≢ decimal n)
        by true is = parted bytes some ∙ (λ i. is i ++ last ∷ []) ∙ sym digit
        by false not = λ is. not (append_cancel_right front [] (last ∷ []) (sym (parted bytes some) ∙ is ∙ digit))
