-- What was written before stays.
use Rattle.arj_words.specs.Page.{Stays}
use Rattle.arj_view_text.proofs.blocks.put_aligned.Given as goal

abbrev pub invariant-loop-limit : goal.invariant-loop-limit
invariant-loop-limit l = Stays l.fn.page.bytes l.page.bytes
