-- What was written before stays.
use Rattle.arj_words.specs.Page.{Stays}
use Rattle.arj_view_text.proofs.blocks.write_text.Given as goal

abbrev pub invariant-loop-at : goal.invariant-loop-at
invariant-loop-at l = Stays l.fn.page.bytes l.page.bytes
