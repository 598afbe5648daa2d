-- The words that ask for views.
use Rattle.std.specs.Prelude.{ℕ, List, codes}
use Rattle.arj_view.specs.declared.way.Way.{Way}
use Rattle.arj_view.specs.declared.way.Way.TheVariants as way

-- the word that asks for a view
abbrev pub way_word : Way → List ℕ
way_word way.Text = codes "text"
way_word way.Ascii = codes "ascii"
way_word way.Html = codes "html"
