use Rattle.arj_law_runs.proofs.bindings.Events.{moves_few}
use Rattle.arj_law_runs.proofs.bindings_bindings.runs_make_few_bindings.Goals as goal

pub returns : goal.returns
returns c = moves_few
