-- What was written before stays.
use Rattle.arj_words.specs.Page.{Stays}
use Rattle.arj_words.proofs.saying.say.Given as goal

abbrev pub invariant-loop-byte : goal.invariant-loop-byte
invariant-loop-byte l = Stays l.fn.page.bytes l.page.bytes
