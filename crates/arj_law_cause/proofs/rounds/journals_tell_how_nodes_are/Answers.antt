use Rattle.arj_law_cause.proofs.quiesces.Known.{runs_are_known}
use Rattle.arj_law_cause.proofs.rounds.journals_tell_how_nodes_are.Goals as goal

pub returns : goal.returns
returns c = record { runs = runs_are_known }
