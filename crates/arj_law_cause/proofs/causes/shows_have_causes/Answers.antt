use Rattle.arj_law_cause.proofs.kinds.Shown.{copy_row, entry_row}
use Rattle.arj_law_cause.proofs.causes.shows_have_causes.Goals as goal

pub returns : goal.returns
returns c = record { entries = entry_row; copies = copy_row }
