-- The labels that a journal gave.
use Rattle.std.specs.Prelude.{List, [], ◌∷◌}
use Rattle.std.specs.BTreeSet.{insert_key}
use Rattle.arj_journal.specs.declared.body.Body.{Body}
use Rattle.arj_journal.specs.declared.body.Body.TheVariants as body
use Rattle.arj_journal.specs.declared.body.Line.{Line}
use Rattle.arj_text.specs.Label.{label_cmp}
use Rattle.arj_text.specs.declared.label.Label.{Label}

-- the labels behind a line: with that of an action that it says began, each at its place in their order
abbrev pub given_behind : List Label → Body → List Label
given_behind given (body.Began l k u p) = insert_key label_cmp given l
given_behind given _ = given

-- the labels behind lines
abbrev pub given_after : List Label → List Line → List Label
given_after given [] = given
given_after given (line ∷ lines) = given_after (given_behind given line.body) lines

-- the labels of the actions that began in these lines
abbrev pub labels_in : List Line → List Label
labels_in lines = given_after [] lines
