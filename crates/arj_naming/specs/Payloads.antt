-- Parts of an entry's payload.
use Rattle.std.specs.Prelude.{ℕ, List, [], ◌∷◌, drop}

-- what stands behind a count and as many bytes
abbrev pub behind_count : List ℕ → List ℕ
behind_count [] = []
behind_count (n ∷ bytes) = drop n bytes
