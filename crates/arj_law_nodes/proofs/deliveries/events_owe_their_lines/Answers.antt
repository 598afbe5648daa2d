use Rattle.arj_law_nodes.proofs.delivery.Whole.{runs_write, turns_owe}
use Rattle.arj_law_nodes.proofs.deliveries.events_owe_their_lines.Goals as goal

pub returns-clause-runs : goal.returns-clause-runs
returns-clause-runs c = λ hd form es e own running. runs_write hd form es e own running

pub returns-clause-turns : goal.returns-clause-turns
returns-clause-turns c = λ hd form ts e own. turns_owe hd form ts e own
