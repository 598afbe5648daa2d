-- Lists of numbers that increase.
use Rattle.std.proofs.Common.{◌≡◌, ◌<◌, ℕ, List, [], ◌∷◌, arith, subst, ⊎_elim}
use Rattle.std.specs.Prelude.{Contains}
use Rattle.std.specs.List.{AllByRecursion}
use Rattle.std.specs.Ordering.{nat_cmp}
use Rattle.std.specs.declared.cmp.Ordering.TheVariants.{Less}
use Rattle.std.proofs.lemmas.Bool.Decides.{nat_tests}
use Rattle.std.proofs.lemmas.List.Elements.{Contains-append_cases, Contains-push_cases}

-- a number compares as it is
pub less_is : (j k : ℕ) → j < k → nat_cmp j k ≡ Less
less_is j k less = grind (arith, nat_tests)

pub is_less : (j k : ℕ) → nat_cmp j k ≡ Less → j < k
is_less j k less = grind (arith, nat_tests)

-- what holds along a list holds of what is in it
pub all_of : {X : Type 0} (P : X → Type 0) (xs : List X) → AllByRecursion P xs → (x : X) → Contains xs x → P x
all_of {X = X} P [] all x is = let never : ⊥ = omega (arith, is.1) in absurd never
all_of {X = X} P (y ∷ ys) all x is = ⊎_elim
    (λ (here : Contains (y ∷ []) x). subst P (one y x here) all.0)
    (λ (later : Contains ys x). all_of P ys all.1 x later)
    (Contains-append_cases (y ∷ []) ys x is)
  where
    one : (y x : X) → Contains (y ∷ []) x → y ≡ x
    one y x is = ⊎_elim (λ (never : Contains [] x). let no : ⊥ =
        omega (arith, never.1) in absurd no) (λ (e : y ≡ x). e) (Contains-push_cases [] y x is)
