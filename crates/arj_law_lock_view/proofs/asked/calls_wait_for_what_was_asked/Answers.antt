use Rattle.arj_law_lock_view.proofs.asking.Tied.{runs_tie}
use Rattle.arj_law_lock_view.proofs.asked.calls_wait_for_what_was_asked.Goals as goal

pub returns : goal.returns
returns c = record { runs = runs_tie }
