use Rattle.arj_replay.proofs.Right.{difference_right}
use Rattle.arj_check.proofs.laws.no_difference_is_right.Goals as goal

pub returns : goal.returns
returns c = difference_right
