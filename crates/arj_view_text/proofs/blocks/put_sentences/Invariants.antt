-- What was written before stays.
use Rattle.arj_words.specs.Page.{Stays}
use Rattle.arj_view_text.proofs.blocks.put_sentences.Given as goal

abbrev pub invariant-loop-line : goal.invariant-loop-line
invariant-loop-line l = Stays l.fn.page.bytes l.page.bytes
