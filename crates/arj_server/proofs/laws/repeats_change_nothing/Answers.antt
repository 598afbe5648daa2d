use Rattle.arj_server.proofs.Means.{repeated}
use Rattle.arj_server.proofs.laws.repeats_change_nothing.Goals as goal

pub returns : goal.returns
returns c = repeated
