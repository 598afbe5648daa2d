-- Journals in which the operations that were answered are in form.
use Rattle.std.specs.Prelude.{⊤, ◌≡◌, ℕ, List}
use Rattle.std.specs.List.{AllByRecursion}
use Rattle.arj_protocol.specs.Words.{Body, Line}
use Rattle.arj_protocol.specs.Words.body
use Rattle.arj_text.specs.Fields.{OpTextInForm}

-- an `ok` line on the object has an operation in form
abbrev pub OpFits : ℕ → Body → Type 0
OpFits x (body.Ok l y op answer) = y ≡ x → OpTextInForm op
OpFits x _ = ⊤

-- so it is of each line
abbrev pub OpsFit : ℕ → List Line → Type 0
OpsFit x lines = AllByRecursion (λ (l : Line). OpFits x l.body) lines
