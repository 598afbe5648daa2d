-- The newest of numbered things.
use Rattle.std.specs.Prelude.{ℕ, zero, suc, Option, None, option_map}
use Rattle.std.specs.Option.{option_or}

-- a thing with its number
abbrev pub numbered : {X : Type 0} → ℕ → Option X → Option (ℕ × X)
numbered n thing = option_map (λ x. (n, x)) thing

-- The thing with the greatest number below n, with that number.
unfoldable pub newest : {X : Type 0} → (ℕ → Option X) → ℕ → Option (ℕ × X)
newest thing zero = None
newest thing (suc n) = option_or (numbered n (thing n)) (newest thing n)
