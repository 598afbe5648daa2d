use Rattle.arj_law_cause.proofs.rows.Whole.{conflicts_are_exact}
use Rattle.arj_law_cause.proofs.answers.conflicts_come_exactly.Goals as goal

pub returns : goal.returns
returns c = record { runs = λ hd r form. conflicts_are_exact hd r form }
