-- What is read of a source.
use Rattle.std.specs.Prelude.{◌≡◌, ◌↔◌, ℕ, List, [], ◌++◌, Option, Some, IfSome}
use Rattle.arj_io.specs.Told.{Gives}

-- A piece was read behind what was read before: so many bytes, none exactly at the input's end.
pub record ReadsPiece (left rest : Option (List ℕ)) (before after : List ℕ) (count : ℕ) : Type 0 where
  pub piece : List ℕ
  pub read : after ≡ before ++ piece
  pub gives : Gives left piece rest
  pub nothing : count ≡ 0 → piece ≡ []
  pub end : IfSome left (λ bytes. (count ≡ 0) ↔ (bytes ≡ []))

-- The bytes are all that was left.
abbrev pub ReadsAll : Option (List ℕ) → List ℕ → Option (List ℕ) → Type 0
ReadsAll left bytes rest = Gives left bytes rest × IfSome left (λ _. rest ≡ Some [])
