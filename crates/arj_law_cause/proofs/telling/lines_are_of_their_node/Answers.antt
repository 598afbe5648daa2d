use Rattle.arj_law_cause.proofs.local.Runs.{lines_local}
use Rattle.arj_law_cause.proofs.telling.lines_are_of_their_node.Goals as goal

pub returns : goal.returns
returns c = record { runs = λ hd r form. lines_local hd r form }
