-- A journal at the limit of frames.
use Rattle.std.specs.Prelude.{◌≡◌, List, [], ◌∷◌, ◌++◌}
use Rattle.arj_journal.specs.declared.body.Body.TheVariants as body
use Rattle.arj_journal.specs.declared.body.Line.{Line}
use Rattle.arj_journal.specs.declared.body.Which.TheVariants as which

-- its last line says that a frame didn't fit
abbrev pub EndsAtFrames : List Line → Type 0
EndsAtFrames journal = (lines : List Line) × (line : Line) × (journal ≡ lines ++ line ∷ []) × (line.body ≡ body.Limit which.Frames)
