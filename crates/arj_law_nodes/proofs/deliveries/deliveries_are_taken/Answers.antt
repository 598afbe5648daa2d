use Rattle.arj_law_nodes.proofs.delivery.Whole.{runs_take, turn_nodes, turns_take}
use Rattle.arj_law_nodes.proofs.deliveries.deliveries_are_taken.Goals as goal

pub returns-clause-runs : goal.returns-clause-runs
returns-clause-runs c = λ hd form es e k d. runs_take hd form es e k d

pub returns-clause-turns : goal.returns-clause-turns
returns-clause-turns c = λ hd form ts t k d. turns_take hd form ts t k d

pub returns-clause-nodes : goal.returns-clause-nodes
returns-clause-nodes c = λ hd form ts. turn_nodes hd form ts
