use Rattle.arj_law_runs.proofs.addresses.Runs.{lines_name}
use Rattle.arj_law_runs.proofs.texts.lines_name_nodes.Goals as goal

pub returns : goal.returns
returns c = λ hd r form. lines_name hd form r
