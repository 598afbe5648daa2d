-- What the lines of a script are: forms of the grammar, one after another, or a line that is none.
use Rattle.std.specs.Prelude.{◌≡◌, ◌≤◌, ◌<◌, ℕ, List, [], ◌∷◌, length}
use Rattle.arj_loop.specs.declared.ending.BadLine.{BadLine}
use Rattle.arj_loop.specs.declared.ending.BadLine.TheVariants as why
use Rattle.arj_script.specs.Grammar.{Form, HasForm, IsBadLine, Place, next_place}
use Rattle.arj_script.specs.declared.limits.TheConstants.{LINE_BYTES}

-- The lines have these forms, one after another, from a place to a place.
abbrev pub HaveForms : Place → List (List ℕ) → List Form → Place → Type 0
HaveForms place [] [] end = place ≡ end
HaveForms place (line ∷ lines) (form ∷ forms) end = HasForm place line form × HaveForms (next_place place form) lines forms end
HaveForms place [] (form ∷ forms) end = ⊥
HaveForms place (line ∷ lines) [] end = ⊥

-- Why a line that is there can't be read: it is longer than 500 bytes, or it isn't in the grammar at its place.
abbrev pub IsBadBy : BadLine → Place → List ℕ → Type 0
IsBadBy why.TooLong place line = LINE_BYTES < length line
IsBadBy why.Unknown place line = (length line ≤ LINE_BYTES) × IsBadLine place line
IsBadBy why.Missing place line = ⊥
