use Rattle.arj_law_serial.proofs.joint.BookRuns.{runs_are_called}
use Rattle.arj_law_serial.proofs.booked.runs_commit_what_was_called.Goals as goal

pub returns : goal.returns
returns c = runs_are_called
