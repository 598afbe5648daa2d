-- What was written before stays.
use Rattle.arj_words.specs.Page.{Stays}
use Rattle.arj_view_ascii.proofs.chart.put_head.Given as goal

abbrev pub invariant-loop-node : goal.invariant-loop-node
invariant-loop-node l = Stays l.fn.page.bytes l.page.bytes
