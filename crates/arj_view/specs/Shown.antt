-- What is shown of a run.
use Rattle.std.specs.Prelude.{◌≡◌, ℕ, List, ⊤}
use Rattle.arj_seen.specs.declared.seen.Seen.{Seen}
use Rattle.arj_view.specs.declared.way.Way.{Way}
use Rattle.arj_view.specs.declared.way.Way.TheVariants as way
use Rattle.arj_view_html.specs.Page.{page_text}
use Rattle.arj_view_html.specs.declared.page.TheConstants.{BACK, FRONT}

-- A page is exactly that of what was seen. Of the other views nothing is said.
abbrev pub Shows : Way → Seen → List ℕ → Type 0
Shows way.Html seen shown = shown ≡ page_text FRONT.now BACK.now seen
Shows _ seen shown = ⊤
