-- Whether they rise is asked of those that are left.
use Rattle.std.proofs.Common.{◌≡◌, length}
use Rattle.arj_text.specs.Fields.{is_rising}
use Rattle.arj_text.proofs.field_list.are_rising.Given as goal

abbrev pub invariant-loop-rest : goal.invariant-loop-rest
invariant-loop-rest l = is_rising l.rest ≡ is_rising l.pairs

abbrev pub decreases-loop-rest : goal.decreases-loop-rest
decreases-loop-rest l = length l.rest
