-- The pieces of a text between separators.
use Rattle.std.specs.Prelude.{ℕ, List, [], ◌∷◌, ◌++◌, ◌==◌, if◌then◌else◌, slice_get, Option, Some, None}

-- the pieces of these bytes; `front` is what has come of the piece in hand
abbrev pub pieces_from : ℕ → List ℕ → List ℕ → List (List ℕ)
pieces_from separator front [] = front ∷ []
pieces_from separator front (b ∷ bs) =
    if b == separator then front ∷ pieces_from separator [] bs else pieces_from separator (front ++ b ∷ []) bs

-- the pieces of a text: one more than it has separators
abbrev pub pieces : ℕ → List ℕ → List (List ℕ)
pieces separator bytes = pieces_from separator [] bytes

-- these bytes, or none
abbrev pub or_no_bytes : Option (List ℕ) → List ℕ
or_no_bytes None = []
or_no_bytes (Some bytes) = bytes

-- the word of a line with this number, from 0; no bytes where there are fewer
abbrev pub word : ℕ → List ℕ → List ℕ
word number line = or_no_bytes (slice_get (pieces 32 line) number)
