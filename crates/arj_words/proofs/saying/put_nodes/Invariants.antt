-- What was written before stays.
use Rattle.arj_words.specs.Page.{Stays}
use Rattle.arj_words.proofs.saying.put_nodes.Given as goal

abbrev pub invariant-loop-at : goal.invariant-loop-at
invariant-loop-at l = Stays l.fn.page.bytes l.page.bytes
