-- Where a line stands, by the lines before it.
use Rattle.std.specs.Prelude.{◌≡◌, ℕ, List, [], ◌∷◌, zero, suc}
use Rattle.arj_main.specs.declared.place.Place.{Place}
use Rattle.arj_main.specs.declared.place.Place.TheVariants as here
use Rattle.arj_script.specs.Grammar.{Form, HasForm, Objects, Running, Start, next_place}
use Rattle.arj_script.specs.Grammar as grammar

-- the place of the grammar
abbrev pub grammar_place : Place → grammar.Place
grammar_place here.Start = Start
grammar_place (here.Header header) = Objects header
grammar_place here.Running = Running

-- so many of these lines, or all if there are fewer, lead from a place to a place
abbrev pub Leads : grammar.Place → ℕ → List (List ℕ) → grammar.Place → Type 0
Leads from zero lines to = to ≡ from
Leads from (suc n) [] to = to ≡ from
Leads from (suc n) (line ∷ lines) to = (form : Form) × HasForm from line form × Leads (next_place from form) n lines to
