use Rattle.arj_law_runs.proofs.resting.{GiveUps.rounds_settle, Quiets.quiesces_settle}
use Rattle.arj_law_runs.proofs.rounds.quiesces_leave_nothing_to_do.Goals as goal

pub returns-clause-quiesces : goal.returns-clause-quiesces
returns-clause-quiesces c = quiesces_settle

pub returns-clause-rounds : goal.returns-clause-rounds
returns-clause-rounds c = rounds_settle
