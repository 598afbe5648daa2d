-- Bytes that a source or a sink tells of. None is one that doesn't tell.
use Rattle.std.specs.Prelude.{ℕ, ◌≡◌, ◌++◌, List, Option, IfSome, IsSomeAnd}

-- The piece stood first among the bytes left and has moved. A source that tells goes on telling.
abbrev pub Gives : Option (List ℕ) → List ℕ → Option (List ℕ) → Type 0
Gives old piece new = IfSome old (λ bytes. IsSomeAnd new (λ rest. bytes ≡ piece ++ rest))

-- The piece was taken, behind what was taken before. A sink may stop telling, and never begins to.
abbrev pub Takes : Option (List ℕ) → List ℕ → Option (List ℕ) → Type 0
Takes old piece new = IfSome new (λ bytes. IsSomeAnd old (λ before. bytes ≡ before ++ piece))
