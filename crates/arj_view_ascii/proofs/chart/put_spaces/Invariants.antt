-- What was written before stays.
use Rattle.arj_words.specs.Page.{Stays}
use Rattle.arj_view_ascii.proofs.chart.put_spaces.Given as goal

abbrev pub invariant-loop : goal.invariant-loop
invariant-loop l = Stays l.fn.page.bytes l.page.bytes
