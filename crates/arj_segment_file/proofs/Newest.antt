-- The newest of numbered things, as things come and go.
use Rattle.std.proofs.Common.{◌≡◌, ◌≢◌, ◌∙◌, true, false, ℕ, zero, suc, ◌<◌, ◌≤◌, arith, refl, sym, ap, inl, inr, ⊎_elim, ◌⊎◌, Option, Some}
use Rattle.std.proofs.Common.{None}
use Rattle.std.specs.Prelude.{nat_lt, unwrap_or}
use Rattle.std.proofs.lemmas.Bool.{cases_Bool}
use Rattle.std.proofs.lemmas.Bool.Decides.{nat_tests}
use Rattle.std.specs.Option.{option_or}
use Rattle.arj_segment_file.specs.Newest.{newest, numbered}

-- one number is below another or not
pub below_or : (k n : ℕ) → (k < n) ⊎ (n ≤ k)
below_or k n =
    ⊎_elim (λ (yes : nat_lt k n ≡ true). inl (grind (arith, nat_tests))) (λ (no : nat_lt k n ≡ false). inr (grind (arith, nat_tests))) (cases_Bool (nat_lt k n))

module _ {X : Type 0} where
  unfolds : (f : ℕ → Option X) (n : ℕ) → newest f (suc n) ≡ option_or (numbered n (f n)) (newest f n)
  unfolding newest
  unfolds f n = refl

  at_zero : (f : ℕ → Option X) → newest f zero ≡ None
  unfolding newest
  at_zero f = refl

  -- things that are the same have the same newest
  pub newest_same : (f g : ℕ → Option X) (n : ℕ) → ((j : ℕ) → j < n → g j ≡ f j) → newest g n ≡ newest f n
  newest_same f g zero same = at_zero g ∙ sym (at_zero f)
  newest_same f g (suc n) same =
      unfolds g n ∙ (λ i. option_or (numbered n (same n (omega arith) i)) (newest_same f g n (λ j below. same j (omega (arith, below))) i)) ∙ sym (unfolds f n)

  -- where there is nothing from a number on, it doesn't count how far one goes
  pub newest_below : (f : ℕ → Option X) (k n : ℕ) → k ≤ n → ((j : ℕ) → k ≤ j → j < n → f j ≡ None) → newest f n ≡ newest f k
  newest_below f k zero within none = ap (newest f) (omega (arith, within))
  newest_below f k (suc n) within none = ⊎_elim
      (λ (less : k < suc n). unfolds f n ∙ ap (λ o. option_or (numbered n o) (newest f n)) (none n (omega (arith, less)) (omega arith)) ∙ newest_below f k n (omega (arith, less)) (λ j from below. none j from (omega (arith, below))))
      (λ (same : suc n ≤ k). ap (newest f) (omega (arith, within, same)))
      (below_or k (suc n))

  -- nothing has no newest
  pub newest_none : (f : ℕ → Option X) (n : ℕ) → ((j : ℕ) → j < n → f j ≡ None) → newest f n ≡ None
  newest_none f n none = newest_below f zero n (omega arith) (λ j from below. none j below) ∙ at_zero f

  -- where there is nothing above a number, the thing with this number is the newest, if there is one
  pub newest_at : (f : ℕ → Option X) (k n : ℕ) → k < n → ((j : ℕ) → k < j → j < n → f j ≡ None) →
      newest f n ≡ option_or (numbered k (f k)) (newest f k)
  newest_at f k n within none =
      newest_below f (suc k) n (omega (arith, within)) (λ j from below. none j (omega (arith, from)) below) ∙ unfolds f k

  -- a thing that comes above all others is the newest
  pub newest_put : (f g : ℕ → Option X) (k n : ℕ) → k < n → ((j : ℕ) → k ≤ j → j < n → f j ≡ None) → ((j : ℕ) → j < n → j ≢ k → g j ≡ f j)
      → newest g n ≡ option_or (numbered k (g k)) (newest f n)
  newest_put f g k n within none same =
      newest_at g k n within (λ j above below. same j below (λ e. omega (arith, above, e)) ∙ none j (omega (arith, above)) below)
      ∙ ap (option_or (numbered k (g k))) (newest_same f g k (λ j below. same j (omega (arith, below, within)) (λ e. omega (arith, below, e))) ∙ sym (newest_below f k n (omega (arith, within)) none))

  -- where there is nothing above a number, and nothing below it unless there is a thing with it, only that thing counts
  pub newest_top : (f : ℕ → Option X) (k n : ℕ) → k < n → ((j : ℕ) → k < j → j < n → f j ≡ None) →
      (f k ≡ None → (j : ℕ) → j < k → f j ≡ None) → newest f n ≡ numbered k (f k)
  newest_top f k n within above below = newest_at f k n within above ∙ by (f k) refl
    where
      by : (o : Option X) → f k ≡ o → option_or (numbered k o) (newest f k) ≡ numbered k o
      by None is = newest_none f k (below is)
      by (Some x) is = refl

  -- the newest is one of the things
  pub newest_is : (f : ℕ → Option X) (n : ℕ) (p : ℕ × X) → newest f n ≡ Some p → (p.0 < n) × (f p.0 ≡ Some p.1)
  newest_is f zero p is = let never : None ≡ Some p = sym (at_zero f) ∙ is in absurd cc
  newest_is f (suc n) p is = by (f n) refl (newest_is f n p) (sym (unfolds f n) ∙ is)
    where
      by : (o : Option X) → f n ≡ o → (newest f n ≡ Some p → (p.0 < n) × (f p.0 ≡ Some p.1)) →
          option_or (numbered n o) (newest f n) ≡ Some p → (p.0 < suc n) × (f p.0 ≡ Some p.1)
      by None none rest same = let at = rest same in (omega (arith, at.0), at.1)
      by (Some y) there rest same =
          let number : n ≡ p.0 =
          ap (λ (o : Option (ℕ × X)). (unwrap_or o (n, y)).0) same in let thing : y ≡ p.1 =
          ap (λ (o : Option (ℕ × X)). (unwrap_or o (n, y)).1) same in (omega (arith, number), ap f (sym number) ∙ there ∙ ap Some thing)

  -- where there is no newest, there is nothing
  pub nothing_there : (f : ℕ → Option X) (n : ℕ) → newest f n ≡ None → (j : ℕ) → j < n → f j ≡ None
  nothing_there f zero none j below = absurd (omega (arith, below))
  nothing_there f (suc n) none j below = by (f n) refl (nothing_there f n) (sym (unfolds f n) ∙ none)
    where
      by : (o : Option X) → f n ≡ o → (newest f n ≡ None → (i : ℕ) → i < n → f i ≡ None) → option_or (numbered n o) (newest f n) ≡ None →
          f j ≡ None
      by (Some y) there rest same = let never : Some (n, y) ≡ None = same in absurd cc
      by None there rest same =
          ⊎_elim (λ (less : j < n). rest same j less) (λ (last : n ≤ j). ap f (omega (arith, below, last)) ∙ there) (below_or j n)
