use Rattle.arj_law_cause.proofs.operations.Running.{runs_answer}
use Rattle.arj_law_cause.proofs.answers.answers_are_of_their_operations.Goals as goal

pub returns : goal.returns
returns c = record { runs = λ hd r form. runs_answer hd r form }
