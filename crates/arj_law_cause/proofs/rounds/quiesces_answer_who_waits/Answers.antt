use Rattle.arj_law_cause.proofs.quiesces.Rounds.{runs_answer}
use Rattle.arj_law_cause.proofs.rounds.quiesces_answer_who_waits.Goals as goal

pub returns : goal.returns
returns c = record { runs = runs_answer }
