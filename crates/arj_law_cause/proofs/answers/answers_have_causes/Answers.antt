use Rattle.arj_law_cause.proofs.rows.Whole.{answers_are_caused}
use Rattle.arj_law_cause.proofs.answers.answers_have_causes.Goals as goal

pub returns : goal.returns
returns c = record { runs = λ hd r form. answers_are_caused hd r form }
