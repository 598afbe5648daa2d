use Rattle.arj_law_cause.proofs.quiesces.Alone.{runs_answer_alone}
use Rattle.arj_law_cause.proofs.rounds.asked_alone_is_answered.Goals as goal

pub returns : goal.returns
returns c = record { runs = runs_answer_alone }
