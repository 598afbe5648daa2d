use Rattle.arj_server.proofs.Said.{all_said}
use Rattle.arj_server.proofs.laws.lines_are_all.Goals as goal

pub returns : goal.returns
returns c = all_said
