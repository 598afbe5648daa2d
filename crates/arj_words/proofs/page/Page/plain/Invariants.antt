-- What came of the bytes so far was appended.
use Rattle.std.proofs.Common.{take}
use Rattle.arj_words.specs.Page.{Appends, Stays, plain}
use Rattle.arj_words.proofs.page.Page.plain.Given as goal

abbrev pub invariant-loop-byte : goal.invariant-loop-byte
invariant-loop-byte l = record {
  appends : Appends l.fn.self (plain (take l.byte-index l.bytes)) l.self;
  stays : Stays l.fn.self.bytes l.self.bytes;
}
