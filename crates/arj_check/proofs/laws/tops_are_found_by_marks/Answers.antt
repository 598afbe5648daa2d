use Rattle.arj_check.proofs.Loops.{tops_start}
use Rattle.arj_check.proofs.laws.tops_are_found_by_marks.Goals as goal

pub returns : goal.returns
returns c = tops_start
