use Rattle.arj_law_cause.proofs.told.Every.{lines_have_causes}
use Rattle.arj_law_cause.proofs.telling.every_line_has_its_cause.Goals as goal

pub returns : goal.returns
returns c = record { runs = λ hd r form. lines_have_causes hd r form }
