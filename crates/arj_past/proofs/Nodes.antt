-- What holds of each node, one after another.
use Rattle.std.proofs.Common.{◌≡◌, ◌≤◌, ◌<◌, ◌⊎◌, inl, inr, ℕ, ◌+◌, Bool, true, false, nat_le, refl, sym, subst, arith}
use Rattle.std.proofs.Math.Logic.{⊎_elim}
use Rattle.std.proofs.lemmas.Bool.Decides.{nat_tests}

-- it holds of each of so many
abbrev pub OfEach : (ℕ → Type 0) → ℕ → Type 0
OfEach P nodes = (n : ℕ) → 1 ≤ n → n ≤ nodes → P n

pub of_none : (P : ℕ → Type 0) → OfEach P 0
of_none P n some few = absurd (omega (arith, some, few))

-- one more
pub of_more : (P : ℕ → Type 0) (done : ℕ) → OfEach P done → P (done + 1) → OfEach P (done + 1)
of_more P done h p n some few =
    ⊎_elim (λ (l : n ≤ done). h n some l) (λ (s : n ≡ done + 1). subst P (sym s) p) (split n done few)
  where
    split : (m k : ℕ) → m ≤ k + 1 → (m ≤ k) ⊎ (m ≡ k + 1)
    split m k le = by (nat_le m k) refl
      where
        by : (b : Bool) → nat_le m k ≡ b → (m ≤ k) ⊎ (m ≡ k + 1)
        by true e = inl (grind (arith, nat_tests, e))
        by false e = inr (let more : k < m = grind (arith, nat_tests, e) in omega (arith, le, more))

pub one_fails : (P : ℕ → Type 0) (done nodes : ℕ) → done < nodes → (P (done + 1) → ⊥) → OfEach P nodes → ⊥
one_fails P done nodes lt fails h = fails (h (done + 1) (omega arith) (omega (arith, lt)))
