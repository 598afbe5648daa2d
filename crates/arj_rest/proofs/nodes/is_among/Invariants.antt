use Rattle.std.proofs.Common.{◌≡◌, drop}
use Rattle.arj_model.specs.Last.{is_among}
use Rattle.arj_rest.proofs.nodes.is_among.Given as goal

abbrev pub invariant-loop-other : goal.invariant-loop-other
invariant-loop-other l = is_among (drop l.other-index l.numbers) l.number ≡ is_among l.numbers l.number
