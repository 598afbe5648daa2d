use Rattle.std.proofs.Common.{drop}
use Rattle.arj_class.specs.Forms.{PairsFit}
use Rattle.arj_class.proofs.payload.pairs_fit.Given as goal

abbrev pub invariant-loop-pair : goal.invariant-loop-pair
invariant-loop-pair l = PairsFit (drop l.pair-index l.pairs) → PairsFit l.pairs
