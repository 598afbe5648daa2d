-- What came of the bytes so far was appended.
use Rattle.std.proofs.Common.{take}
use Rattle.arj_words.specs.Page.{Appends, Stays, escaped}
use Rattle.arj_words.proofs.page.Page.escaped.Given as goal

abbrev pub invariant-loop-byte : goal.invariant-loop-byte
invariant-loop-byte l = record {
  appends : Appends l.fn.self (escaped (take l.byte-index l.bytes)) l.self;
  stays : Stays l.fn.self.bytes l.self.bytes;
}
